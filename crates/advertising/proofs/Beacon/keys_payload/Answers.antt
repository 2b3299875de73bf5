-- The bytes stored are the service data.
use Rattle.std.proofs.Common.{◌≡◌, ◌≤◌, ◌∙◌, ap, List, ℕ, length, rules, arith, length-drop}
use Rattle.basics.specs.Output.{placed}
use Rattle.advertising.specs.Payload.{structure}
use Rattle.advertising.proofs.Structure.{data_stored}
use Rattle.advertising.proofs.Beacon.keys_payload.Goals as goal

pub returns-clause-out_after : goal.returns-clause-out_after
returns-clause-out_after c =
    let a = c.args in
    let long : length a.self.filter ≡ 15 = search rules in
    let few : c.filter_size-s.result ≤ 15 = omega (arith, c.filter_size-s.ensures) in
    c.write_structure.ensures.out_after ∙ ap (λ (t : List ℕ). placed (structure t) a.out.now)
    (data_stored a.count _ a.self.filter a.self.salt _ a.prompt c.filter_size-s.ensures c.prompt_type.ensures c.copy_from_slice.ensures.after
    c.copy_from_slice-2.ensures.after (omega arith) (search rules) (simp length-drop (omega arith)))
