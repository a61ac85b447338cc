-- Laws of specifications, over the definitions alone. Assumes nothing.
use Rattle.std.proofs.Common.{◌≡◌, ℕ, ◌+◌, ◌*◌, ◌/◌, ◌%◌, ◌^◌, ◌<◌, ◌≤◌, Bool, refl, sym, ◌∙◌, subst, rules, tests, arith}
use native.Mathlib.Decide.{dec_lt}
use lib.Dec.{lit<}
use lib.Bits.{bit_and, and_block, and_mask}
use Rattle.column_specification.specs.TypeNumber.{type_number}
use Rattle.column_specification.specs.Specification.{made, refused, packed, pack, id_of, type_of, compressed_of}
use Rattle.column_specification.specs.Key.{key}
use Rattle.column_specification.specs.declared.ColumnType.{ColumnType}

-- ---- a type and its number

-- a type's number has three bits
pub number-below : (t : ColumnType) → type_number t < 8
number-below t = search rules

-- no two types have one number, so that a contract which fixes the number of an answer fixes the answer
pub number-only : (s t : ColumnType) → type_number s ≡ type_number t → s ≡ t
number-only s t e = search rules

-- ---- packing

-- an id below 2^28 is packed, and no other
pub pack_made : (id number : ℕ) (compressed : Bool) {spec : ℕ} → id < 2 ^ 28 → spec ≡ packed id number compressed → made spec ≡ pack id number compressed
pack_made id number compressed fits e = search (rules, tests)

pub pack-refused : (id number : ℕ) (compressed : Bool) → 2 ^ 28 ≤ id → refused 19 0 ≡ pack id number compressed
pack-refused id number compressed large = search (rules, tests)

-- ---- unpacking after packing: id, type and compressed bit come back

pub record Unpacked (id number : ℕ) (compressed : Bool) (spec : ℕ) : Type 0 where
  pub same_id : id_of spec ≡ id
  pub same-type : type_of spec ≡ number
  pub same_bit : compressed_of spec ≡ compressed

pub unpacked : (id number : ℕ) (compressed : Bool) → number < 8 → Unpacked id number compressed (packed id number compressed)
unpacked id number compressed small = record {
  same_id = search (rules, tests);
  same-type = search (rules, tests);
  same_bit = search (rules, tests);
}

pub unpack-after-pack : (id number : ℕ) (compressed : Bool) (spec : ℕ) → number < 8
    → pack id number compressed ≡ made spec → Unpacked id number compressed spec
unpack-after-pack id number compressed spec small e =
    elim (dec_lt id (2 ^ 28)) [
      | yes fits ↦
          let same : packed id number compressed ≡ spec = cc (pack_made id number compressed fits refl) in
          subst (Unpacked id number compressed) same (unpacked id number compressed small)
      | no large ↦ absurd (cc (pack-refused id number compressed (omega arith)))
    ]

-- ---- packing after unpacking: every u32 is the specification of its parts

pub packed-again : (spec : ℕ) → spec ≡ packed (id_of spec) (type_of spec) (compressed_of spec)
packed-again spec = search (rules, tests)

pub id_below : (spec : ℕ) → spec < 2 ^ 32 → id_of spec < 2 ^ 28
id_below spec h = omega arith

pub pack-after-unpack : (spec : ℕ) → spec < 2 ^ 32 → pack (id_of spec) (type_of spec) (compressed_of spec) ≡ made spec
pack-after-unpack spec fits = sym (pack_made (id_of spec) (type_of spec) (compressed_of spec) (id_below spec fits) (packed-again spec))

-- ---- the sorting key

-- it depends on the id and the type alone, and so not on the compressed bit
pub key-of-id-and-type : (a b : ℕ) → id_of a ≡ id_of b → type_of a ≡ type_of b → key a ≡ key b
key-of-id-and-type a b i t = omega arith

pub key-without-bit : (id number : ℕ) (b c : Bool) → number < 8 → key (packed id number b) ≡ key (packed id number c)
key-without-bit id number b c small = search (rules, tests)

-- columns stand by id, and those of one id by type
pub key-by-id : (a b : ℕ) → id_of a < id_of b → key a < key b
key-by-id a b h = omega arith

pub key-by-type : (a b : ℕ) → id_of a ≡ id_of b → type_of a < type_of b → key a < key b
key-by-type a b i t = omega arith

-- the key of a u32 is what the mask 0xFFFFFFF7 leaves
pub key-mask : (spec : ℕ) → spec < 2 ^ 32 → key spec ≡ bit_and spec 0xFFFFFFF7
key-mask spec h =
    let split : spec / 16 * 2 ^ 4 + spec % 16 ≡ spec = omega arith in
    let halves = and_block 4 (spec / 16) 0xFFFFFFF (spec % 16) 7 (omega arith) (lit< tt) in
    let whole : bit_and (spec / 16) 0xFFFFFFF ≡ spec / 16 = and_mask (spec / 16) 28 ∙ omega arith in
    omega (arith, rw split at halves, whole, and_mask (spec % 16) 3)
