use Rattle.std.proofs.Common.{arith, ℕ, ◌+◌, List, [], take, sym, subst}
use Rattle.block_layout.specs.Trees.{tree_over}
use Rattle.block_layout.specs.Loading.{Shown}
use Rattle.block_layout.proofs.Spaces.{keeps_itself, keeps_then, stays_itself, stays_then, stays_by}
use Rattle.block_layout.proofs.Puts.{own_first, own_next, own_last, puts_by}
use Rattle.block_layout.proofs.load.put_own.Goals as goal

pub loop-i-init : goal.loop-i-init
loop-i-init c = record { kept = keeps_itself; sorted = stays_itself; shown = own_first c.args.own.now c.args.space.now c.args.names.now.items c.requires.none c.requires.limit }

pub returns-in_err-id-clause-kept : goal.returns-in_err-id-clause-kept
returns-in_err-id-clause-kept c = keeps_then c.loop-i.invariant.kept c.put.ensures.kept

pub returns-in_err-push-clause-kept : goal.returns-in_err-push-clause-kept
returns-in_err-push-clause-kept c = keeps_then c.loop-i.invariant.kept c.put.ensures.kept

pub returns-then-is_past_limit-clause-kept : goal.returns-then-is_past_limit-clause-kept
returns-then-is_past_limit-clause-kept c = keeps_then c.loop-i.invariant.kept c.put.ensures.kept

pub returns-then-is_past_limit-clause-sorted : goal.returns-then-is_past_limit-clause-sorted
returns-then-is_past_limit-clause-sorted c = stays_then c.loop-i.invariant.sorted (stays_by c.in_ok-id.ensures.sorted)

pub loop-i-preserved : goal.loop-i-preserved
loop-i-preserved c = record {
  kept = keeps_then c.loop-i.invariant.kept c.put.ensures.kept;
  sorted = stays_then c.loop-i.invariant.sorted (stays_by c.in_ok-id.ensures.sorted);
  shown = subst (λ (ns : List ℕ). Shown tree_over [] (take (c.loop-i.i + 1) c.args.own.now) c.put.new.space ns) (sym c.in_ok-push.ensures.items) (own_next c.args.language.now c.args.own.now c.loop-i.i c.node.result.now c.loop-i.space c.put.new.space c.loop-i.names.items c.in_ok-id.id c.known.ensures c.node.ensures.node
      c.put.ensures.kept (puts_by c.loop-i.space c.put.new.space _ _ _ _ c.deref.ensures.value c.in_ok-id.ensures.stands) (c.is_past_limit.ensures.within c.if-is_past_limit.false) c.loop-i.invariant.shown);
}

pub returns-clause-put : goal.returns-clause-put
returns-clause-put c = own_last c.args.own.now c.loop-i.i c.loop-i.space c.loop-i.names.items (omega (arith, c.loop-i-test.false, c.len-i-end.ensures.len)) c.loop-i.invariant.shown

pub returns-clause-few : goal.returns-clause-few
returns-clause-few c = λ h. c.loop-i.invariant.shown.few
