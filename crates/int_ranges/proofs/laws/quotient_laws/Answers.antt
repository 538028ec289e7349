use Rattle.int_ranges.specs.QuotientLaws.{quotient_is, quotient_only, quotient_unique, quotient_toward_zero, div_mul_rem, rem_within_positive, rem_within_negative, rem_non_negative, rem_non_positive, quotient_of_multiple, exact_quotient, least_leaves_only, remainder_fits}
use Rattle.std.specs.Int.{w128}
use Rattle.int_ranges.proofs.laws.quotient_laws.Goals as goal

pub returns-clause-are_the_quotient : goal.returns-clause-are_the_quotient
returns-clause-are_the_quotient c = quotient_is

pub returns-clause-no_others : goal.returns-clause-no_others
returns-clause-no_others c = quotient_only

pub returns-clause-unique : goal.returns-clause-unique
returns-clause-unique c = quotient_unique

pub returns-clause-toward_zero : goal.returns-clause-toward_zero
returns-clause-toward_zero c = quotient_toward_zero

pub returns-clause-whole : goal.returns-clause-whole
returns-clause-whole c = λ a b h. div_mul_rem a b

pub returns-clause-within_positive : goal.returns-clause-within_positive
returns-clause-within_positive c = rem_within_positive

pub returns-clause-within_negative : goal.returns-clause-within_negative
returns-clause-within_negative c = rem_within_negative

pub returns-clause-rem_non_negative : goal.returns-clause-rem_non_negative
returns-clause-rem_non_negative c = rem_non_negative

pub returns-clause-rem_non_positive : goal.returns-clause-rem_non_positive
returns-clause-rem_non_positive c = rem_non_positive

pub returns-clause-multiple : goal.returns-clause-multiple
returns-clause-multiple c = quotient_of_multiple

pub returns-clause-exact : goal.returns-clause-exact
returns-clause-exact c = exact_quotient

pub returns-clause-least_leaves_only : goal.returns-clause-least_leaves_only
returns-clause-least_leaves_only c = least_leaves_only w128

pub returns-clause-remainder_fits : goal.returns-clause-remainder_fits
returns-clause-remainder_fits c = remainder_fits w128
