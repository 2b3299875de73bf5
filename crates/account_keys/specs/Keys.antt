-- Document 01, "The device and its events": the owners' account keys; document 02 (ii): the order of use.
-- Assumes nothing.
use Rattle.std.specs.Prelude.{Bool, true, false, not, List, [], ◌∷◌, ◌++◌, ◌≡◌, ℕ, ◌≤◌, leb, eqb, length, take, drop, get_or, replicate, if◌then◌else◌}
use Rattle.laws.specs.Choice.{◌and◌, ◌or◌}
use Rattle.laws.specs.Lists.{padded, All}
use Rattle.account_keys.specs.declared.AccountKey.{AccountKey}
use Rattle.account_keys.specs.declared.AccountKeys.{AccountKeys}
use Rattle.basics.specs.Bytes.{same}

-- "Account key list of at most 5 keys"; document 02 (vi): "The limit becomes 10."
abbrev pub limit : ℕ
limit = 10

abbrev pub zero_key : AccountKey
zero_key = record { bytes = replicate 16 0 }

-- the keys of the list; document 02 (ii): "The list order becomes order of use."
abbrev pub held : AccountKeys → List AccountKey
held ks = take ks.count ks.keys

-- the value that holds a list of keys: its unused places are zero
abbrev pub kept : List AccountKey → AccountKeys
kept l = record { keys = padded limit zero_key l; count = length l }

abbrev pub member : List AccountKey → AccountKey → Bool
member [] k = false
member (x ∷ xs) k = same x.bytes k.bytes or member xs k

-- the other keys, in their order
abbrev pub without : List AccountKey → AccountKey → List AccountKey
without [] k = []
without (x ∷ xs) k = if same x.bytes k.bytes then without xs k else x ∷ without xs k

-- document 02 (ii): "the key moves to the end"; one that is not held moves nothing
unfoldable pub used : List AccountKey → AccountKey → List AccountKey
used l k = if member l k then without l k ++ (k ∷ []) else l

-- an account key write: "being written again" is a use. "Else, if the list is full", its first key, the "least recently used", is
-- removed; "the new one goes last"
unfoldable pub stored : List AccountKey → AccountKey → List AccountKey
stored l k =
    if member l k then used l k else
    if leb limit (length l) then drop 1 l ++ (k ∷ []) else
    l ++ (k ∷ [])

-- not "a key not starting with 0x04, a key twice"
unfoldable pub owned : List AccountKey → Bool
owned [] = true
owned (k ∷ ks) = eqb (get_or k.bytes 0 0) 0x04 and not (member ks k) and owned ks

-- sixteen bytes
abbrev pub Sized : AccountKey → Type 0
Sized k = length k.bytes ≡ 16

-- the value holds a list of at most `limit` keys, and nothing in the places that are not in use
pub record Kept (ks : AccountKeys) : Type 0 where
  pub few : ks.count ≤ limit
  pub whole : ks ≡ kept (held ks)

-- what holds of every list that power-on read or an event left
pub record Valid (ks : AccountKeys) : Type 0 where
  pub canonical : Kept ks
  pub sized : All Sized (held ks)
  pub known : owned (held ks) ≡ true
