-- What stands where a place and a row of a picture meet.
use Rattle.std.specs.Prelude.{ℕ, cond, ltb, eqb}
use Rattle.picture.specs.Scale.{row_of}
use Rattle.picture.specs.declared.Scale.{Scale}
use Rattle.picture.specs.declared.Stretch.{Stretch}

-- 0 air or a gap, 1 the trace, 2 the trace where some readings are absent, 3 clay
unfoldable pub shade_of : ℕ → ℕ → ℕ → ℕ → ℕ → ℕ
shade_of row top bottom here gone =
    cond (eqb here 0) 0 (cond (ltb row top) 0 (cond (ltb bottom row) 3 (cond (eqb gone 0) 1 2)))

-- the trace of a place goes from the row of its least to the row of its greatest depth
unfoldable pub shade_at : Scale → ℕ → Stretch → ℕ
shade_at c row s = shade_of row (row_of s.low c.base c.step) (row_of s.high c.base c.step) s.here s.gone
