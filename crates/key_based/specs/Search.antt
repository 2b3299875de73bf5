-- Document 01, "The answer tells the number of keys tried": what the search for a fitting key hands over.
-- Assumes nothing.
use Rattle.std.specs.Prelude.{List, ℕ, Option, Some, None}
use Rattle.account_keys.specs.declared.AccountKey.{AccountKey}
use Rattle.basics.specs.declared.Address.{Address}
use Rattle.key_based.specs.Named.{address_named, fitting}
use Rattle.key_based.specs.Request.{candidates, opened, Place, found, nothing, search}
use Rattle.key_based.specs.declared.Found.{Found}
use Rattle.key_based.specs.declared.Search.{Search}
use Rattle.key_based.specs.declared.named.Named.{Named}

-- keys tried on a request, after n others
abbrev pub tried : Address → Address → List ℕ → ℕ → List (List ℕ) → Place
tried ble public request n keys = search (λ k. fitting ble public (opened k request)) n keys

-- "if none fits, the number of candidates"
abbrev pub none_fits : ℕ → Search
none_fits n = record { tried = n; found = None }

-- a key with the request as it opens it, if this names an address
abbrev pub with_named : List ℕ → List ℕ → Option Named → Option Found
with_named key plain None = None
with_named key plain (Some n) = Some (record { named = n; key = key; plain = plain })

abbrev pub fit : Address → Address → List ℕ → List ℕ → Option Found
fit ble public request key = with_named key (opened key request) (address_named ble public (opened key request))

-- "the place of the fitting key, counted from 1", with the key, the request as it opens it, and the address that this names
abbrev pub handed_over : Address → Address → List ℕ → Place → Search
handed_over ble public request (found n key) = record { tried = n; found = fit ble public request key }
handed_over ble public request (nothing n) = none_fits n

-- the address that a search tells
abbrev pub named_in : Option Found → Option Named
named_in None = None
named_in (Some f) = Some f.named

-- the whole search: the candidates of a request, "tried in list order", up to "the first that fits"
abbrev pub searched : Address → Address → List AccountKey → Option (List ℕ) → List ℕ → Search
searched ble public keys secret request =
    handed_over ble public request (tried ble public request 0 (candidates keys secret request))
