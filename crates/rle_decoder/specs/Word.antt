-- 01, "Columns": "Actor and Integer columns hold optional u64". Their element: an unsigned number.
use Rattle.std.specs.Prelude.{ℕ, ◌^◌, ltb, eqb}
use Rattle.leb128.specs.Read.{u64_at}
use Rattle.leb128.specs.Write.{u64_bytes}
use Rattle.encoding.specs.Element.{Element}

abbrev pub u64_e : Element ℕ
u64_e = record { read = u64_at; write = u64_bytes; same = eqb; fits = λ n. ltb n (2 ^ 64) }
