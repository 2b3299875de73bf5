-- What is proved of the keys and the stored list besides the functions' contracts: proofs/Use.antt, Order.antt,
-- Storing.antt and ReadBack.antt.
-- Assumes nothing.
use Rattle.std.specs.Prelude.{Bool, true, false, ◌≡◌, ℕ, ◌-◌, ◌≤◌, ◌<◌, length, get_or, if◌then◌else◌, None, Some}
use mathlib.Core.List.{List, [], ◌∷◌, ◌++◌, Permᴰ}
use Rattle.laws.specs.Lists.{All}
use Rattle.account_keys.specs.Keys.{Valid, Sized, limit, zero_key, held, kept, member, without, used, owned, stored}
use Rattle.account_keys.specs.StoredList.{stored_list_max, writing_under, writing, reading_under, older_reading, reading}
use Rattle.account_keys.specs.declared.AccountKey.{AccountKey}
use Rattle.account_keys.specs.declared.AccountKeys.{AccountKeys}
use Rattle.basics.specs.Bytes.{same}

-- document 02 (ii): "the key moves to the end". The same keys are held (`List.Permᴰ` is the library's "the same elements, in any
-- order"), none twice and as many as before; the others keep their order, and the last is the one used
pub record MovesToEnd (l : List AccountKey) (k : AccountKey) : Type 0 where
  pub same_keys : Permᴰ l (used l k)
  pub none_twice : owned (used l k) ≡ true
  pub as_many : length (used l k) ≡ length l
  pub others : without (used l k) k ≡ without l k
  pub last : member l k ≡ true → get_or (used l k) (length l - 1) zero_key ≡ k

abbrev pub UseMovesToEnd : Type 0
UseMovesToEnd = (l : List AccountKey) (k : AccountKey) → owned l ≡ true → MovesToEnd l k

-- a stands before b in a list
abbrev pub stands_before : List AccountKey → AccountKey → AccountKey → Bool
stands_before [] a b = false
stands_before (x ∷ xs) a b = if same x.bytes a.bytes then member xs b else stands_before xs a b

-- a key that is stored or used stands before none, and no other key comes to stand behind one
pub record GoesLast (l : List AccountKey) (k : AccountKey) : Type 0 where
  pub before_none : (b : AccountKey) → stands_before (stored l k) k b ≡ false
  pub others_stay : (a b : AccountKey) → stands_before (stored l k) a b ≡ true → same k.bytes b.bytes ≡ false
      → stands_before l a b ≡ true

abbrev pub StoredGoesLast : Type 0
StoredGoesLast = (l : List AccountKey) (k : AccountKey) → GoesLast l k

-- what an account key write removes stood before all others in a full list: a use removes none
pub record RemovesFirst (l : List AccountKey) (a : AccountKey) : Type 0 where
  pub full : limit ≤ length l
  pub first : (b : AccountKey) → member l b ≡ true → same a.bytes b.bytes ≡ false → stands_before l a b ≡ true

abbrev pub OnlyFirstRemoved : Type 0
OnlyFirstRemoved =
    (l : List AccountKey) (k a : AccountKey) → owned l ≡ true → member l a ≡ true → member (stored l k) a ≡ false
    → RemovesFirst l a

-- a use of the last key changes nothing
abbrev pub LastUsedAgain : Type 0
LastUsedAgain =
    (l : List AccountKey) (k : AccountKey) → owned (l ++ (k ∷ [])) ≡ true → used (l ++ (k ∷ [])) k ≡ l ++ (k ∷ [])

-- a use keeps the list valid
abbrev pub UsesValid : Type 0
UsesValid = (ks : AccountKeys) (k : AccountKey) → Valid ks → Valid (kept (used (held ks) k))

-- the stored list of every valid value has room in stored_list_max bytes
abbrev pub WritesWithinMax : Type 0
WritesWithinMax = (ks : AccountKeys) → Valid ks → length (writing (held ks)) ≤ stored_list_max

-- "The stored list reads back as it was written", of every version and every bound that the list keeps
abbrev pub ReadsBackUnder : Type 0
ReadsBackUnder =
    (version most : ℕ) (ks : AccountKeys) → Valid ks → length (held ks) ≤ most
    → reading_under version most (writing_under version (held ks)) ≡ Some ks

-- so of what is written now
abbrev pub ReadsBack : Type 0
ReadsBack =
    (ks : AccountKeys) → Valid ks → reading (writing (held ks)) ≡ Some ks

-- a list that reads under a version is that version's writing of what it reads as
abbrev pub OnlyWritings : Type 0
OnlyWritings =
    (version most : ℕ) (b : List ℕ) (ks : AccountKeys) → All (λ x. x < 256) b → reading_under version most b ≡ Some ks
    → writing_under version (held ks) ≡ b

-- whatever reads is valid
abbrev pub ReadsValid : Type 0
ReadsValid = (b : List ℕ) (ks : AccountKeys) → reading b ≡ Some ks → Valid ks

-- document 02 (vi): "Version 0x01 is still read, with at most 5": its lists read, or are refused, as they were before
abbrev pub OlderStillRead : Type 0
OlderStillRead = (b : List ℕ) → get_or b 2 0 ≡ 0x01 → reading b ≡ older_reading b

-- "Old firmware given a 0x02 list answers 14", and so given any list that is written now
abbrev pub OlderRefuses : Type 0
OlderRefuses = (b : List ℕ) → get_or b 2 0 ≡ 0x02 → older_reading b ≡ None

-- an account key write keeps the list valid
abbrev pub StoresValid : Type 0
StoresValid =
    (ks : AccountKeys) (k : AccountKey) → Valid ks → Sized k → get_or k.bytes 0 0 ≡ 0x04 → Valid
    (kept (stored (held ks) k))
