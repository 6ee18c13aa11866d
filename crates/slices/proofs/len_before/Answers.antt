-- `slices::len_before` meets its contract: so many bytes stand before the first that is `stop`.
use Rattle.std.proofs.Common.{◌≡◌, ◌≢◌, ℕ, List, length, sym, refl, ◌∙◌, rules, add-one}
use Rattle.std.proofs.lemmas.Iterator.{YieldsList-from_slice, IsFirst-from_position, index_from_first}
use borrow.Author.Tests.{eq-eqb, ne_eqb, tests}
use Rattle.slices.specs.Slices.{before}
use Rattle.slices.proofs.len_before.Goals as goal

pub returns : goal.returns
unfolding before
returns c =
    let stop = c.args.stop in
    let bytes = c.args.bytes.now in
    let first =
    IsFirst-from_position _ _ c.position.result (λ (b : ℕ). b ≡ stop) (λ (b : ℕ). b ≢ stop) c.position.ensures.ran
    (YieldsList-from_slice bytes cc) (λ x q k. search (rules, tests)) (λ x q k. search (rules, tests)) in
    c.unwrap_or.ensures
    ∙ sym (index_from_first (λ (s : List ℕ). length (before stop s)) (λ (b : ℕ). b ≡ stop) (λ (b : ℕ). b ≢ stop) refl
    (λ b s e. rw (eq-eqb b stop e)) (λ b s e. rw (ne_eqb b stop e, add-one)) bytes c.position.result first)
