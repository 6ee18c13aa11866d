-- `appending::put_name` meets its contract.
use Rattle.std.proofs.Common.{◌≡◌, ℕ, ◌+◌, ◌-◌, List, length, take, drop, replicate, length-take, length-drop, refl, ap, ◌∙◌, arith}
use Rattle.std.proofs.lemmas.List.{length-replicate}
use Rattle.slices.proofs.Placing.{put_fits, then_put}
use Rattle.format.specs.Names.{padded}
use Rattle.appending.proofs.Parts.{part_put}
use Rattle.appending.proofs.put_name.Goals as goal

pub returns : goal.returns
unfolding padded
returns c =
    let out = c.args.out.now in
    let at = c.args.at in
    let name = c.args.name.now in
    let end = at + length name in
    let zeros : List ℕ = replicate (8 - length name) 0 in
    let one = c.put.new.out in
    let room : length (take (at + 8 - end) (drop end one)) ≡ 8 - length name =
    omega (arith, length-take {A = ℕ}, length-drop {A = ℕ}, c.put.auto.out) in
    let filled : c.fill.new.self ≡ zeros = c.fill.ensures.after (λ y e. e) ∙ ap (λ k. replicate k 0) room in
    then_put out one _ at end name zeros (c.put.ensures ∙ put_fits out at name (omega arith))
    (part_put one end (at + 8 - end) c.fill.new.self zeros filled (omega (arith, length-replicate {A = ℕ}))) refl
    (omega (arith, length-replicate {A = ℕ}))
