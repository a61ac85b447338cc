-- What each answer of the code stands for.
use Rattle.std.specs.Prelude.{ℕ, ◌+◌, ◌*◌, ◌^◌, Some, None}
use Rattle.std.specs.Prelude as code
use Rattle.std.proofs.Math.Option.{Option, none, some}
use Rattle.refusal.specs.Number.{number_of}
use Rattle.table_reason.specs.TableReason as spec
use Rattle.table_reason.specs.declared.TableFacts.{TableFacts}
use Rattle.table_reason.specs.declared.TableFacts.TheVariants as facts
use Rattle.table_reason.specs.declared.TableReason.{TableReason}

abbrev pub row_of : code.Option ℕ → spec.Row
row_of None = spec.nowhere
row_of (Some i) = spec.row i

-- what lengths add up to is given in two numbers
abbrev pub facts_of : TableFacts → spec.Facts
facts_of (facts.Bytes n) = spec.bytes n
facts_of (facts.Columns n) = spec.columns n
facts_of (facts.Falls a b) = spec.falls a b
facts_of (facts.Compressed a) = spec.compressed a
facts_of (facts.Lengths high low room) = spec.lengths (high * 2 ^ 64 + low) room

abbrev pub reason_of : TableReason → spec.TableReason
reason_of r = record { number = number_of r.refusal.0; place = r.refusal.1; row = row_of r.row; facts = facts_of r.facts }

abbrev pub told_of : code.Option TableReason → Option spec.TableReason
told_of (Some r) = some (reason_of r)
told_of None = none
