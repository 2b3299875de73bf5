-- Laws of the kind that a byte or a record is read as.
-- Assumes nothing.
use mathlib.Core.Bool.{Bool, true, false}
use mathlib.Core.List.{List, [], ◌∷◌}
use mathlib.Core.Path.{◌≡◌, refl, sym, ap, ◌∙◌}
use Prim.Native.Nat.{ℕ, ◌≤◌, ◌<◌}
use lib.ListN.{length, get_or}
use borrow.Author.Tests.{lt-ltb, le-ltb, eq-eqb, ne_eqb}
use Rattle.recording.specs.Layout.{kind_byte}
use lib.Dec.{ltb}
use Rattle.laws.specs.Choice.{◌or◌}
use Rattle.std.specs.Prelude.{if◌then◌else◌, Result, Ok, Err}
use Rattle.std.specs.Result.{result_unwrap_or}
use Rattle.recording.specs.Reading.{kind_among, kinds, kind_in, kind_read, DecodesKind}
use Rattle.recording.specs.declared.UnknownKind.{UnknownKind}
use Rattle.recording.specs.declared.Kind.{Kind}
use Rattle.recording.specs.declared.Kind.TheVariants as kind

-- a byte that is no kind's is read as a marker
no_kind : (b : ℕ) (ks : List Kind) → ((k : Kind) → kind_byte k ≡ b → ⊥) → kind_among b ks ≡ kind.Marker
no_kind b [] h = refl
no_kind b (k ∷ ks) h = rw (ne_eqb b (kind_byte k) (λ e. h k (sym e))) (no_kind b ks h)

own_byte : (k : Kind) → k ≡ kind_in (kind_byte k)
own_byte kind.Marker = refl
own_byte kind.LinkUp = refl
own_byte kind.LinkDown = refl
own_byte kind.PairingMode = refl
own_byte kind.AddressRotated = refl
own_byte kind.PowerOn = refl
own_byte kind.FactoryReset = refl
own_byte kind.KeyBasedWrite = refl
own_byte kind.PairingStarted = refl
own_byte kind.ConfirmationNeeded = refl
own_byte kind.PasskeyWrite = refl
own_byte kind.PairingEnded = refl
own_byte kind.AccountKeyWrite = refl
own_byte kind.NameWrite = refl

-- the kind that a byte decodes to, or a marker in place of an error
pub kind_decoded : (b : ℕ) (r : Result Kind UnknownKind) → DecodesKind b r → result_unwrap_or r kind.Marker ≡ kind_in b
kind_decoded b (Ok k) e = own_byte k ∙ ap kind_in e
kind_decoded b (Err e) h = sym (no_kind b kinds h.1)

-- a record, test by test
module _ (r : List ℕ) where
  pub read_short : length r < 2 → kind.Marker ≡ kind_read r
  unfolding kind_read
  read_short h = rw (lt-ltb (length r) 2 h)

  module _ (h : 2 ≤ length r) where
    pub read_long : 1024 < length r → kind.Marker ≡ kind_read r
    unfolding kind_read
    read_long k = rw (le-ltb (length r) 2 h, lt-ltb 1024 (length r) k)

    pub read_other_version : (get_or r 0 0 ≡ 0x01 → ⊥) → kind.Marker ≡ kind_read r
    unfolding kind_read
    read_other_version v = rw (le-ltb (length r) 2 h, ne_eqb (get_or r 0 0) 0x01 v) (marked (ltb 1024 (length r)))
      where
        marked : (t : Bool) → kind.Marker ≡ (if t or true then kind.Marker else kind_in (get_or r 1 0))
        marked true = refl
        marked false = refl

    pub read_by_byte : length r ≤ 1024 → get_or r 0 0 ≡ 0x01 → kind_in (get_or r 1 0) ≡ kind_read r
    unfolding kind_read
    read_by_byte k v = rw (le-ltb (length r) 2 h, le-ltb 1024 (length r) k, eq-eqb (get_or r 0 0) 0x01 v)
