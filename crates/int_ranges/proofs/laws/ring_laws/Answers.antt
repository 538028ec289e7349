use Rattle.int_ranges.specs.Ring.{mul_comm, mul_assoc, mul_sum, sum_mul, mul_diff, diff_mul, mul_zero, zero_mul, mul_one, one_mul, mul_negative, negative_mul, zero_product, mul_cancel}
use Rattle.int_ranges.proofs.laws.ring_laws.Goals as goal

pub returns-clause-product_commutes : goal.returns-clause-product_commutes
returns-clause-product_commutes c = mul_comm

pub returns-clause-product_associates : goal.returns-clause-product_associates
returns-clause-product_associates c = mul_assoc

pub returns-clause-product_of_sum : goal.returns-clause-product_of_sum
returns-clause-product_of_sum c = mul_sum

pub returns-clause-sum_by_factor : goal.returns-clause-sum_by_factor
returns-clause-sum_by_factor c = sum_mul

pub returns-clause-product_of_difference : goal.returns-clause-product_of_difference
returns-clause-product_of_difference c = mul_diff

pub returns-clause-difference_by_factor : goal.returns-clause-difference_by_factor
returns-clause-difference_by_factor c = diff_mul

pub returns-clause-product_by_zero : goal.returns-clause-product_by_zero
returns-clause-product_by_zero c = mul_zero

pub returns-clause-zero_by_factor : goal.returns-clause-zero_by_factor
returns-clause-zero_by_factor c = zero_mul

pub returns-clause-product_by_one : goal.returns-clause-product_by_one
returns-clause-product_by_one c = mul_one

pub returns-clause-one_by_factor : goal.returns-clause-one_by_factor
returns-clause-one_by_factor c = one_mul

pub returns-clause-product_by_negative : goal.returns-clause-product_by_negative
returns-clause-product_by_negative c = mul_negative

pub returns-clause-negative_by_factor : goal.returns-clause-negative_by_factor
returns-clause-negative_by_factor c = negative_mul

pub returns-clause-no_divisor_of_zero : goal.returns-clause-no_divisor_of_zero
returns-clause-no_divisor_of_zero c = zero_product

pub returns-clause-factor_cancels : goal.returns-clause-factor_cancels
returns-clause-factor_cancels c = mul_cancel
