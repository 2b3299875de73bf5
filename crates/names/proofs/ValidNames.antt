-- Every name that was read is valid, and a valid name is what its text is read as.
-- Assumes nothing.
use mathlib.Core.Bool.{Bool, true, false}
use mathlib.Core.List.{List}
use mathlib.Core.Path.{◌≡◌, refl, sym, ap}
use Prim.Native.Nat.{ℕ, ◌≤◌}
use native.Mathlib.Omega.{arith}
use lib.Dec.{leb}
use lib.ListN.{length}
use borrow.Author.Tests.{le-leb, leb-true}
use Rattle.std.specs.Prelude.{if◌then◌else◌, None, Some}
use Rattle.laws.proofs.Choice.{and_left, and_right}
use Rattle.laws.proofs.Padded.{take_padded}
use Rattle.names.specs.Name.{is_name, text_of, name_of, no_name, reading, read_again, Valid}
use Rattle.names.specs.Utf8.{is_utf8, continues}
use Rattle.names.specs.declared.Name.{Name}

pub text_of_name_of : (l : List ℕ) → text_of (name_of l) ≡ l
text_of_name_of l = take_padded 64 0 l

pub name_of_valid : (l : List ℕ) → is_name l ≡ true → Valid (name_of l)
unfolding is_name
name_of_valid l e =
    record {
      few = leb-true (length l) 64 (and_left (leb (length l) 64) (is_utf8 l) e);
      whole = ap name_of (sym (text_of_name_of l));
      text = rw (text_of_name_of l) (and_right (leb (length l) 64) (is_utf8 l) e);
    }

pub no_name_valid : Valid no_name
unfolding continues
no_name_valid = record { few = omega arith; whole = refl; text = refl }

-- what is read holds the text, which is a name's
pub good_reading : (l : List ℕ) {n : Name} → reading l ≡ Some n → (is_name l ≡ true) × (n ≡ name_of l)
good_reading l {n} = by-test (is_name l) refl
  where
    by-test : (b : Bool) → is_name l ≡ b → (if b then Some (name_of l) else None) ≡ Some n
        → (is_name l ≡ true) × (n ≡ name_of l)
    by-test true e h = (e, cc)
    by-test false e h = cc

pub reading_valid : (l : List ℕ) {n : Name} → reading l ≡ Some n → Valid n
reading_valid l e = let good = good_reading l e in rw good.1 (name_of_valid l good.0)

pub read_again_valid : (n : Name) {m : Name} → read_again n ≡ Some m → Valid m
read_again_valid n {m} = by-test (leb n.length 64)
  where
    by-test : (b : Bool) → (if b then reading (text_of n) else None) ≡ Some m → Valid m
    by-test true h = reading_valid (text_of n) h
    by-test false h = cc

pub is_name_lem : (l : List ℕ) → length l ≤ 64 → is_utf8 l ≡ true → is_name l ≡ true
unfolding is_name
is_name_lem l h e = rw (le-leb (length l) 64 h, e)

module _ {n : Name} (v : Valid n) where
  pub length_text : length (text_of n) ≡ n.length
  length_text = sym (ap (λ (m : Name). m.length) v.whole)

  pub text_few : length (text_of n) ≤ 64
  text_few = rw length_text v.few

  pub valid_is_name : is_name (text_of n) ≡ true
  valid_is_name = is_name_lem (text_of n) text_few v.text

pub valid_reads_again : (n : Name) → Valid n → read_again n ≡ Some n
valid_reads_again n v =
    rw (le-leb n.length 64 v.few, valid_is_name v) (ap (λ (m : Name). Some m) (sym v.whole))
