use Rattle.std.proofs.Common.{ℕ, ◌+◌, ◌<◌, List, All, length, arith, subst, sym, ◌∙◌}
use Rattle.block_layout.specs.Loading.{AddedFront}
use Rattle.block_layout.proofs.Spaces.{keeps_itself, keeps_then, stays_itself, stays_then, stays_by}
use Rattle.block_layout.proofs.Puts.{added_first, added_next, bad_number, bad_sort, at_limit, all_added, puts_by}
use Rattle.block_layout.proofs.load.put_added.Goals as goal

pub loop-k-init : goal.loop-k-init
loop-k-init c = record {
  kept = keeps_itself;
  sorted = stays_itself;
  few = c.requires.limit;
  front = added_first c.args.language.now c.args.added.now c.args.space.now c.args.names.now.items c.requires.limit;
}

pub returns-then-not-names_lower-clause-put : goal.returns-then-not-names_lower-clause-put
returns-then-not-names_lower-clause-put c =
    bad_number c.args.language.now c.args.added.now c.loop-k.k c.term_at-term.result.now c.args.space.now c.loop-k.space c.loop-k.space c.args.names.now.items c.loop-k.names.items c.loop-k.names.items c.term_at-term.ensures
    (subst (λ (ns : List ℕ). All (λ a. a < length ns) c.term_at-term.result.now.args → ⊥) c.deref.ensures.value (c.names_lower.ensures.no c.if-not-names_lower.true)) c.loop-k.invariant.front

pub returns-in_err-id-clause-kept : goal.returns-in_err-id-clause-kept
returns-in_err-id-clause-kept c = keeps_then c.loop-k.invariant.kept c.put.ensures.kept

pub returns-then-not-has_sort-clause-put : goal.returns-then-not-has_sort-clause-put
returns-then-not-has_sort-clause-put c =
    bad_sort c.args.language.now c.args.added.now c.loop-k.k c.term_at-term.result.now c.args.space.now c.loop-k.space c.put.new.space c.args.names.now.items c.loop-k.names.items c.loop-k.names.items c.in_ok-id.id c.term_at-term.ensures
    (subst (λ (ns : List ℕ). All (λ a. a < length ns) c.term_at-term.result.now.args) c.deref.ensures.value (c.names_lower.ensures.yes c.if-not-names_lower.false))
    (stays_then c.loop-k.invariant.sorted (stays_by c.in_ok-id.ensures.sorted)) (puts_by c.loop-k.space c.put.new.space _ _ _ _ c.deref-in-loop-k.ensures.value c.in_ok-id.ensures.stands)
    (λ l f s is. sym c.if-not-has_sort.true ∙ c.has_sort.ensures l f s is) c.loop-k.invariant.front

pub returns-then-not-has_sort-clause-kept : goal.returns-then-not-has_sort-clause-kept
returns-then-not-has_sort-clause-kept c = keeps_then c.loop-k.invariant.kept c.put.ensures.kept

pub returns-then-not-has_sort-clause-sorted : goal.returns-then-not-has_sort-clause-sorted
returns-then-not-has_sort-clause-sorted c = stays_then c.loop-k.invariant.sorted (stays_by c.in_ok-id.ensures.sorted)

pub returns-in_err-push-clause-kept : goal.returns-in_err-push-clause-kept
returns-in_err-push-clause-kept c = keeps_then c.loop-k.invariant.kept c.put.ensures.kept

pub returns-then-is_past_limit-clause-put : goal.returns-then-is_past_limit-clause-put
returns-then-is_past_limit-clause-put c = at_limit c.args.language.now c.args.added.now c.args.space.now c.put.new.space c.args.names.now.items _ (c.is_past_limit.ensures.past c.if-is_past_limit.true)

pub returns-then-is_past_limit-clause-kept : goal.returns-then-is_past_limit-clause-kept
returns-then-is_past_limit-clause-kept c = keeps_then c.loop-k.invariant.kept c.put.ensures.kept

pub returns-then-is_past_limit-clause-sorted : goal.returns-then-is_past_limit-clause-sorted
returns-then-is_past_limit-clause-sorted c = stays_then c.loop-k.invariant.sorted (stays_by c.in_ok-id.ensures.sorted)

pub loop-k-preserved : goal.loop-k-preserved
loop-k-preserved c = record {
  kept = keeps_then c.loop-k.invariant.kept c.put.ensures.kept;
  sorted = stays_then c.loop-k.invariant.sorted (stays_by c.in_ok-id.ensures.sorted);
  few = c.is_past_limit.ensures.within c.if-is_past_limit.false;
  front = subst (λ (ns : List ℕ). AddedFront c.args.language.now c.args.added.now (c.loop-k.k + 1) c.args.space.now c.args.names.now.items c.put.new.space ns) (sym c.in_ok-push.ensures.items) (added_next c.args.language.now c.args.added.now c.loop-k.k c.term_at-term.result.now c.args.space.now c.loop-k.space c.put.new.space c.args.names.now.items c.loop-k.names.items c.in_ok-id.id c.term_at-term.ensures
      (subst (λ (ns : List ℕ). All (λ a. a < length ns) c.term_at-term.result.now.args) c.deref.ensures.value (c.names_lower.ensures.yes c.if-not-names_lower.false))
      (stays_then c.loop-k.invariant.sorted (stays_by c.in_ok-id.ensures.sorted)) c.put.ensures.kept (puts_by c.loop-k.space c.put.new.space _ _ _ _ c.deref-in-loop-k.ensures.value c.in_ok-id.ensures.stands)
      (λ l f s is. sym c.if-not-has_sort.false ∙ c.has_sort.ensures l f s is) (c.is_past_limit.ensures.within c.if-is_past_limit.false) c.loop-k.invariant.front);
}

pub returns-clause-put : goal.returns-clause-put
returns-clause-put c = all_added c.args.language.now c.args.added.now c.loop-k.k c.args.space.now c.loop-k.space c.args.names.now.items c.loop-k.names.items (omega (arith, c.loop-k-test.false)) c.loop-k.invariant.front
