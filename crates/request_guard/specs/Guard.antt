-- Document 01, "The device and its events": spent salts and counted failures.
-- Assumes nothing.
use Rattle.std.specs.Prelude.{Bool, true, false, List, [], ◌∷◌, ◌++◌, ◌≡◌, ℕ, ◌+◌, ◌-◌, ◌≤◌, leb, eqb, length, take, drop, get_or, replicate, if◌then◌else◌}
use Rattle.laws.specs.Choice.{◌and◌, ◌or◌}
use Rattle.laws.specs.Lists.{padded, All}
use Rattle.laws.specs.Tabulate.{tabulate}
use Rattle.basics.specs.Bytes.{same}
use Rattle.request_guard.specs.declared.Failures.{Failures}
use Rattle.request_guard.specs.declared.Guard.{Guard}
use Rattle.request_guard.specs.declared.Salt.{Salt}
use Rattle.request_guard.specs.declared.SpentSalts.{SpentSalts}

-- "The last 16 accepted salts are remembered"
abbrev pub salt_limit : ℕ
salt_limit = 16

-- the most bytes that a salt has
abbrev pub salt_room : ℕ
salt_room = 8

abbrev pub no_salt : Salt
no_salt = record { length = 0; bytes = replicate salt_room 0 }

-- "The salt is bytes 14 to 15 if flags 0x40 or 0x10 is set, else 8 to 15."
abbrev pub sized_salt : Salt → Bool
sized_salt s = eqb s.length 2 or eqb s.length 8

-- its first `length` bytes; what stands behind them is left out
abbrev pub salt_bytes : Salt → List ℕ
salt_bytes s = tabulate s.length (λ i. get_or s.bytes i 0)

-- the salt with zeros behind its length, whatever stood there
abbrev pub cleaned_salt : Salt → Salt
cleaned_salt s = record { length = s.length; bytes = padded salt_room 0 (salt_bytes s) }

-- what holds of every salt that a request has: 2 or 8 bytes, and zeros behind them
pub record Proper (s : Salt) : Type 0 where
  pub sized : sized_salt s ≡ true
  pub clean : s ≡ cleaned_salt s

-- the salts remembered, the last one accepted last
abbrev pub remembered : SpentSalts → List Salt
remembered ss = take ss.count ss.salts

-- the value that remembers a list of salts: its unused places are zero
abbrev pub salts : List Salt → SpentSalts
salts l = record { salts = padded salt_limit no_salt l; count = length l }

-- the value remembers a list of at most `salt_limit` salts, and nothing in the places that are not in use
pub record Kept (ss : SpentSalts) : Type 0 where
  pub few : ss.count ≤ salt_limit
  pub whole : ss ≡ salts (remembered ss)

-- "two are equal if length and bytes are"
abbrev pub same_salt : Salt → Salt → Bool
same_salt s u = eqb s.length u.length and same s.bytes u.bytes

abbrev pub spent : List Salt → Salt → Bool
spent [] s = false
spent (x ∷ xs) s = same_salt x s or spent xs s

-- the list after one more, "the last 16" of it
unfoldable pub remembering : List Salt → Salt → List Salt
remembering l s = if leb salt_limit (length l) then drop 1 l ++ (s ∷ []) else l ++ (s ∷ [])

abbrev pub no_failures : Failures
no_failures = record { count = 0; last = record { 0 = 0 } }

abbrev pub with_failures : Guard → Failures → Guard
with_failures g f = record { spent = g.spent; failures = f }

-- "count 0, no spent salts"
abbrev pub fresh : Guard
fresh = record { spent = salts []; failures = no_failures }

-- "count is 10"
abbrev pub locked : Guard → Bool
locked g = eqb g.failures.count 10

-- "count plus 1, this failure's moment stored"
abbrev pub failed_at : ℕ → Guard → Guard
failed_at t g = with_failures g (record { count = g.failures.count + 1; last = record { 0 = t } })

-- "remember the salt, count becomes 0"
abbrev pub accepted_with : Salt → Guard → Guard
accepted_with s g = record { spent = salts (remembering (remembered g.spent) s); failures = no_failures }

-- "if the last counted failure is 300,000 ms or more old, the failure count becomes 0"
unfoldable pub guard_at : ℕ → Guard → Guard
guard_at t g = if leb 300000 (t - g.failures.last.0) then with_failures g no_failures else g

-- what holds of every guard that power-on or an event left
pub record Valid (g : Guard) : Type 0 where
  pub few : g.spent.count ≤ salt_limit
  pub whole : g.spent ≡ salts (remembered g.spent)
  pub proper : All Proper (remembered g.spent)
  pub bounded : g.failures.count ≤ 10
  pub cleared : g.failures.count ≡ 0 → g.failures ≡ no_failures

-- the first `count` salts, cleaned; what stands behind them is left out
abbrev pub in_use : SpentSalts → List Salt
in_use ss = tabulate ss.count (λ i. cleaned_salt (get_or ss.salts i no_salt))

abbrev pub all_sized : List Salt → Bool
all_sized [] = true
all_sized (s ∷ ss) = sized_salt s and all_sized ss

-- counts that a guard can have, and salts of 2 or 8 bytes
abbrev pub bounded : Guard → Bool
bounded g =
    leb g.spent.count salt_limit and leb g.failures.count 10 and all_sized (in_use g.spent)

-- a guard whose unused places are zero, whatever they held
abbrev pub cleaned : Guard → Guard
cleaned g =
    record {
      spent = salts (in_use g.spent);
      failures = if eqb g.failures.count 0 then no_failures else g.failures;
    }
