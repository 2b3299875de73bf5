-- The account keys go over as the stored list, and come back; any bytes are read as a list or as none.
-- Assumes nothing.
use mathlib.Core.Bool.{Bool, true, false}
use mathlib.Core.List.{List, ◌++◌}
use mathlib.Core.Path.{◌≡◌, ap, ◌∙◌}
use Prim.Native.Nat.{ℕ}
use lib.Dec.{leb}
use lib.ListN.{length, take, replicate}
use borrow.Author.Tests.{le-leb}
use Rattle.laws.proofs.Lists.{drop_replicate}
use Rattle.laws.proofs.Padded.{take_padded}
use Rattle.std.specs.Result.{result_unwrap_or}
use Rattle.std.specs.Prelude.{Some, None, Result, Ok, if◌then◌else◌}
use Rattle.laws.specs.Lists.{padded}
use Rattle.account_keys.proofs.ReadBack.{writes_within_max, reads_back, reads_valid}
use Rattle.account_keys.specs.Keys.{held}
use Rattle.account_keys.specs.StoredList.{reading, writing}
use Rattle.account_keys.specs.declared.AccountKeys.{AccountKeys}
use Rattle.basics.specs.Output.{report_of, placed}
use Rattle.basics.specs.declared.Answer.{Answer}
use Rattle.account_keys.specs.StoredList.{stored_list_max}
use Rattle.packed.specs.Packed.{packed_keys, list_of}
use Rattle.packed.specs.declared.FpStored.{FpStored}
use Rattle.account_keys.specs.Keys as keys

pub list_back : (ks : AccountKeys) → keys.Valid ks → list_of (packed_keys ks) ≡ Some ks
list_back ks v =
    let fits : leb (length (writing (held ks))) stored_list_max ≡ true =
    le-leb (length (writing (held ks))) stored_list_max (writes_within_max ks v) in
    rw (fits, take_padded stored_list_max 0 (writing (held ks))) (reads_back ks v)

-- what writing into an empty room leaves
pub list_packed : (ks : AccountKeys) → keys.Valid ks → {n : ℕ} {r : Result ℕ Answer} {b : List ℕ}
    → r ≡ report_of (writing (held ks)) (replicate stored_list_max 0)
    → n ≡ result_unwrap_or r 0
    → b ≡ placed (writing (held ks)) (replicate stored_list_max 0)
    → ◌≡◌ {A = FpStored} (record { length = n; bytes = b; reserved = replicate 4 0 }) (packed_keys ks)
list_packed ks v {n} {r} {b} p m q =
    let w : List ℕ = writing (held ks) in
    let fits : leb (length w) stored_list_max ≡ true = le-leb (length w) stored_list_max (writes_within_max ks v) in
    let ok : r ≡ Ok (length w) = p ∙ rw fits in
    let size : n ≡ length w = m ∙ ap (λ (x : Result ℕ Answer). result_unwrap_or x 0) ok in
    let bytes : b ≡ padded stored_list_max 0 w = q ∙ rw fits (ap (λ l. w ++ l) (drop_replicate (length w) stored_list_max 0)) in
    λ i. record { length = size i; bytes = bytes i; reserved = replicate 4 0 }

pub list_valid : (s : FpStored) {ks : AccountKeys} → list_of s ≡ Some ks → keys.Valid ks
list_valid s {ks} = go (leb s.length stored_list_max)
  where
    go : (b : Bool) → (if b then reading (take s.length s.bytes) else None) ≡ Some ks → keys.Valid ks
    go true h = reads_valid (take s.length s.bytes) ks h
    go false h = cc
