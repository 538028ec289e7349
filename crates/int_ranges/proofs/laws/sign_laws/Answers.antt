use Rattle.int_ranges.specs.Signs.{mul_non_negatives, mul_positives, mul_non_positives, mul_unlike, mul_unlike_turned, mul_at_most, at_most_mul, mul_turns, antisym, at_most_trans, not_at_most, at_most_or_below}
use Rattle.int_ranges.proofs.laws.sign_laws.Goals as goal

pub returns-clause-non_negatives : goal.returns-clause-non_negatives
returns-clause-non_negatives c = mul_non_negatives

pub returns-clause-positives : goal.returns-clause-positives
returns-clause-positives c = mul_positives

pub returns-clause-non_positives : goal.returns-clause-non_positives
returns-clause-non_positives c = mul_non_positives

pub returns-clause-unlike : goal.returns-clause-unlike
returns-clause-unlike c = mul_unlike

pub returns-clause-unlike_turned : goal.returns-clause-unlike_turned
returns-clause-unlike_turned c = mul_unlike_turned

pub returns-clause-order_kept : goal.returns-clause-order_kept
returns-clause-order_kept c = mul_at_most

pub returns-clause-order_kept_behind : goal.returns-clause-order_kept_behind
returns-clause-order_kept_behind c = at_most_mul

pub returns-clause-order_turned : goal.returns-clause-order_turned
returns-clause-order_turned c = mul_turns

pub returns-clause-antisymmetric : goal.returns-clause-antisymmetric
returns-clause-antisymmetric c = antisym

pub returns-clause-transitive : goal.returns-clause-transitive
returns-clause-transitive c = at_most_trans

pub returns-clause-next_above : goal.returns-clause-next_above
returns-clause-next_above c = not_at_most

pub returns-clause-decided : goal.returns-clause-decided
returns-clause-decided c = at_most_or_below
