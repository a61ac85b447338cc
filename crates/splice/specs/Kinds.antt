-- The four kinds of column that edits serve.
use Rattle.std.specs.Prelude.{ℕ, List, true, false, ℤ, pos}
use Rattle.std.proofs.Math.Option.{Option, none}
use Rattle.encoding.specs.Column.{trace, values}
use Rattle.encoding.specs.Writer.{column_bytes}
use Rattle.rle_decoder.specs.Word.{u64_e}
use Rattle.delta_decoder.specs.Sums.{delta_trace}
use Rattle.delta_encoder.specs.Differences.{differences, delta_bytes, wide_at}
use Rattle.boolean_decoder.specs.Turns.{bool_trace}
use Rattle.boolean_encoder.specs.Writer.{bool_bytes}
use Rattle.text.specs.Text.{text_e}
use Rattle.splice.specs.Kind.{Kind}
use Rattle.splice.specs.declared.ColumnKind.TheVariants as kind

abbrev pub integer : Kind (Option ℕ)
integer =
    record {
      kind = kind.Integer;
      reads = λ s. values (trace u64_e s);
      writes = column_bytes u64_e;
      wide = λ xs. none;
      keeps = false;
    }

abbrev pub delta : Kind (Option ℤ)
delta =
    record {
      kind = kind.Delta;
      reads = λ s. values (delta_trace s);
      writes = delta_bytes;
      wide = λ xs. wide_at 0 (differences (pos 0) xs);
      keeps = false;
    }

-- "Edits and all else use the plain form."
abbrev pub boolean : Kind ℕ
boolean =
    record {
      kind = kind.Boolean;
      reads = bool_trace;
      writes = bool_bytes;
      wide = λ xs. none;
      keeps = false;
    }

-- 02, [1]: "a refused text edit leaves them as found, 10 included"
abbrev pub text : Kind (Option (List ℕ))
text =
    record {
      kind = kind.Text;
      reads = λ s. values (trace text_e s);
      writes = column_bytes text_e;
      wide = λ xs. none;
      keeps = true;
    }
