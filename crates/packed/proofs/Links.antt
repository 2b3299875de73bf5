-- Links in packed numbers read back, and any numbers are read as links.
-- Assumes nothing.
use mathlib.Core.Bool.{true}
use mathlib.Core.List.{List}
use mathlib.Core.Path.{◌≡◌, refl, sym, ap, ◌∙◌}
use Prim.Native.Nat.{ℕ, zero, suc, ◌<◌}
use native.Mathlib.Omega.{arith}
use lib.Dec.{leb, eqb}
use lib.ListN.{length, get_or}
use Rattle.laws.proofs.All.{all_get}
use Rattle.laws.proofs.Choice.{if_holds}
use Rattle.laws.proofs.Filled.{length_tabulate, get_d_tabulate, tabulate_ext, tabulate_get_or}
use denote.Param.Members.{Mut, Called}
use lib.Seq.{ext_get_or}
use Rattle.std.specs.Array.{IsMapOf}
use Rattle.laws.specs.Lists.{All}
use Rattle.laws.specs.Tabulate.{tabulate}
use Rattle.basics.specs.declared.Moment.{Moment}
use Rattle.packed.specs.Packed.{no_session, packed_session, held_in, session_of, packed_links, links_of, stages_known}
use Rattle.packed.specs.declared.FpSession.{FpSession}
use Rattle.pairing.proofs.SessionSteps.{in_a_stage}
use Rattle.provider.proofs.Theorems.ValidParts.{idle_holds_nothing}
use Rattle.sessions.specs.Sessions.{Canonical, link_count, session_at, stage_number, absent_session}
use Rattle.sessions.specs.declared.Session.{Session}
use Rattle.sessions.specs.declared.Sessions.{Sessions}
use Rattle.sessions.specs.declared.Stage.{Stage}
use Rattle.sessions.specs.declared.Stage.TheVariants.{Idle, Asked, Pairing, Confirming, Proved, Paired}

-- a stage comes back by its number
back : (stage : Stage) (key : List ℕ) (since : Moment) (passkey : ℕ)
    → Canonical (record { stage = stage; key = key; since = since; passkey = passkey })
    → session_of (packed_session (record { stage = stage; key = key; since = since; passkey = passkey }))
    ≡ record { stage = stage; key = key; since = since; passkey = passkey }
back Idle key since passkey c = sym (c refl)
back Asked key since passkey c = refl
back Pairing key since passkey c = refl
back Confirming key since passkey c = refl
back Proved key since passkey c = refl
back Paired key since passkey c = refl

session_back : (s : Session) → Canonical s → session_of (packed_session s) ≡ s
session_back s = back s.stage s.key s.since s.passkey

-- an array's links one by one, where each call gives what g does
pub each_link : {F A B : Type 0} {m : Mut F (A × Unit {0}) B} {f : F} {xs : List A} {ys : List B} (g : A → B) (absent : A) → B
    → IsMapOf m f xs ys link_count → ((x : A) (y : B) (p q : F) → Called m p (x, tt) y q → y ≡ g x)
    → ys ≡ tabulate link_count (λ l. g (get_or xs l absent))
each_link {xs = xs} {ys = ys} g absent none m e =
    ext_get_or none ys (tabulate link_count (λ l. g (get_or xs l absent))) (m.long ∙ sym (length_tabulate link_count (λ l. g (get_or xs l absent))))
    (λ l h.
    let k : l < link_count = omega (arith, m.long) in
    let c = m.at l absent none k in
    e _ _ _ _ c.2 ∙ sym (get_d_tabulate link_count (λ l. g (get_or xs l absent)) l none k))

pub links_back : (ss : Sessions) → length ss.links ≡ link_count → All Canonical ss.links → links_of (packed_links ss) ≡ ss
links_back ss e p = λ i. record { links = go i }
  where
    one : (l : ℕ) → l < link_count → session_of (get_or (packed_links ss) l no_session) ≡ session_at ss l
    one l h =
        ap session_of (get_d_tabulate link_count (λ l. packed_session (session_at ss l)) l no_session h)
        ∙ session_back (session_at ss l) (all_get Canonical ss.links p l absent_session (omega (arith, e)))

    go : (links_of (packed_links ss)).links ≡ ss.links
    go = tabulate_ext link_count _ _ one ∙ tabulate_get_or link_count ss.links absent_session e

stage_small : (stage : Stage) → leb (stage_number stage) 5 ≡ true
stage_small Idle = refl
stage_small Asked = refl
stage_small Pairing = refl
stage_small Confirming = refl
stage_small Proved = refl
stage_small Paired = refl

stages_known_lem : (n : ℕ) (f : ℕ → FpSession) → ((l : ℕ) → leb (f l).stage 5 ≡ true) → stages_known (tabulate n f) ≡ true
stages_known_lem zero f p = refl
stages_known_lem (suc n) f p = rw (p zero) (stages_known_lem n (λ l. f (suc l)) (λ l. p (suc l)))

pub known_back : (ss : Sessions) → stages_known (packed_links ss) ≡ true
known_back ss =
    stages_known_lem link_count (λ l. packed_session (session_at ss l)) (λ l. stage_small (session_at ss l).stage)

-- whatever number and fields were handed in
pub session_canonical : (f : FpSession) → Canonical (session_of f)
session_canonical f =
    if_holds Canonical (eqb f.stage 1) (in_a_stage (held_in f Asked) refl)
    (λ _. if_holds Canonical (eqb f.stage 2) (in_a_stage (held_in f Pairing) refl)
    (λ _. if_holds Canonical (eqb f.stage 3) (in_a_stage (held_in f Confirming) refl)
    (λ _. if_holds Canonical (eqb f.stage 4) (in_a_stage (held_in f Proved) refl)
    (λ _. if_holds Canonical (eqb f.stage 5) (in_a_stage (held_in f Paired) refl)
    (λ _. idle_holds_nothing)))))
