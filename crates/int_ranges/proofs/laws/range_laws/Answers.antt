use Rattle.int_ranges.specs.RangeLaws.{least_at_most_greatest, int_in_long_long, unsigned_in_long_long, unsigned_in_unsigned_long_long, fits_128, sum_fits, difference_fits, usual_comm, usual_idem, usual_assoc, usual_reaches}
use Rattle.int_ranges.proofs.laws.range_laws.Goals as goal

pub returns-clause-ordered : goal.returns-clause-ordered
returns-clause-ordered c = least_at_most_greatest

pub returns-clause-int_in_long_long : goal.returns-clause-int_in_long_long
returns-clause-int_in_long_long c = int_in_long_long

pub returns-clause-unsigned_in_long_long : goal.returns-clause-unsigned_in_long_long
returns-clause-unsigned_in_long_long c = unsigned_in_long_long

pub returns-clause-unsigned_in_unsigned_long_long : goal.returns-clause-unsigned_in_unsigned_long_long
returns-clause-unsigned_in_unsigned_long_long c = unsigned_in_unsigned_long_long

pub returns-clause-fits : goal.returns-clause-fits
returns-clause-fits c = fits_128

pub returns-clause-sum_fits : goal.returns-clause-sum_fits
returns-clause-sum_fits c = sum_fits

pub returns-clause-difference_fits : goal.returns-clause-difference_fits
returns-clause-difference_fits c = difference_fits

pub returns-clause-common_commutes : goal.returns-clause-common_commutes
returns-clause-common_commutes c = usual_comm

pub returns-clause-common_idempotent : goal.returns-clause-common_idempotent
returns-clause-common_idempotent c = usual_idem

pub returns-clause-common_associates : goal.returns-clause-common_associates
returns-clause-common_associates c = usual_assoc

pub returns-clause-common_reaches : goal.returns-clause-common_reaches
returns-clause-common_reaches c = usual_reaches
