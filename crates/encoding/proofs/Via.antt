-- An answer's meaning, from its contract and the arm that it came to. Assumes nothing.
use mathlib.Core.Path.{◌≡◌, sym, ◌∙◌, ap}

pub via : {X Y : Type 0} (f : X → Y) {r k : X} {y : Y} → f r ≡ y → r ≡ k → y ≡ f k
via f e g = sym e ∙ ap f g
