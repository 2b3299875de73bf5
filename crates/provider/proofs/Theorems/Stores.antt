-- When an event stores a key: what the written list says of the keys that a device holds.
-- Assumes nothing.
use mathlib.Core.Bool.{Bool, true, false}
use mathlib.Core.List.{List, [], ◌∷◌, ◌++◌}
use mathlib.Core.Path.{◌≡◌, refl, sym, ap, ◌∙◌}
use lib.Dec.{leb}
use lib.ListN.{length, drop}
use Rattle.laws.proofs.Choice.{true_is}
use Rattle.std.specs.Prelude.{if◌then◌else◌}
use Rattle.account_keys.specs.Keys.{limit, held, member, without, used, stored}
use Rattle.account_keys.specs.StoredList.{reading, writing}
use Rattle.account_keys.specs.declared.AccountKey.{AccountKey}
use Rattle.account_keys.specs.declared.AccountKeys.{AccountKeys}
use Rattle.std.specs.Prelude.{Option}
use Rattle.provider.specs.Demands.Gap.{listed, rules, Lists, Stores}
use Rattle.provider.specs.Rules.Event.{Event, next}
use Rattle.provider.specs.declared.Device.{Device}
use Rattle.account_keys.specs.Keys as keys
use Rattle.account_keys.proofs.ReadBack.{reads_back}
use Rattle.account_keys.proofs.StoredList.{member_last}
use Rattle.account_keys.proofs.Use.{use_held}

-- a key that was stored is a member
pub member_stored : (l : List AccountKey) (k : AccountKey) → member (stored l k) k ≡ true
unfolding stored
member_stored l k = go (member l k) (leb limit (length l)) refl
  where
    go : (m f : Bool) → member l k ≡ m
        → member (if m then used l k else if f then drop 1 l ++ (k ∷ []) else l ++ (k ∷ [])) k ≡ true
    go true f e = rw (← use_held l k e) (member_last (without l k) k)
    go false true e = member_last (drop 1 l) k
    go false false e = member_last l k

-- a valid list, written out, lists its members
pub lists : (ks : AccountKeys) (k : AccountKey) → keys.Valid ks
    → listed (reading (writing (held ks))) k ≡ member (held ks) k
lists ks k v = ap (λ (r : Option AccountKeys). listed r k) (reads_back ks v)

-- an event after which no other key is held stores none
pub stores_none : (d : Device) (e : Event) (k : AccountKey) → keys.Valid d.keys → keys.Valid (next d e).keys
    → (member (held (next d e).keys) k ≡ true → member (held d.keys) k ≡ true)
    → Stores rules d e k → ⊥
stores_none d e k v w f s = s.1 (lists d.keys k v ∙ f (sym (lists (next d e).keys k w) ∙ s.0))

-- a key that is held afterwards and was not before is stored
pub stores_new : (ks next : AccountKeys) (k : AccountKey) → keys.Valid ks → keys.Valid next
    → member (held next) k ≡ true → member (held ks) k ≡ false
    → Lists (writing (held next)) k × (Lists (writing (held ks)) k → ⊥)
stores_new ks next k v w m n = (lists next k w ∙ m, λ h. true_is (sym n ∙ sym (lists ks k v) ∙ h))
