-- `runs::walk::first` meets its contract: what comes next is the run at the position. Assumes nothing.
use mathlib.Core.Path.{◌∙◌, ap}
use Rattle.runs.specs.Values.{element_of}
use Rattle.runs.proofs.Ends.{element_laws}
use Rattle.runs.specs.Pieces.{rest_of}
use Rattle.runs.specs.declared.walk.Piece.{Piece}
use Rattle.runs.proofs.Walked.{bare}
use Rattle.runs.proofs.walk.first.Goals as goal

pub returns : goal.returns
returns c =
    let a = c.args in
    let k = c.advanced.ensures in record {
      going = k.going;
      result_value = k.result_value ∙ ap (λ (p : Piece). rest_of (element_of a.values).E a.s.now p) c.before_run.ensures ∙ bare _ (element_laws a.values)
          a.s.now a.at a.had;
    }
