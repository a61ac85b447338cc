-- 02, [13], at the boundary: "say yes", 1, or 0 and "the place of the first byte that differs"; the place of a yes is 0.
use Rattle.own_form.specs.Form as spec
use Rattle.capi.specs.declared.Form.{Form}

abbrev pub form_as : spec.Form → Form
form_as spec.ours = record { number = 0; ours = 1; place = 0; differs = 0 }
form_as (spec.other place) = record { number = 0; ours = 0; place = 0; differs = place }
form_as (spec.refused number place) = record { number = number; ours = 0; place = place; differs = 0 }
