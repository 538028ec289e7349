use Rattle.std.specs.Int.{w128}
use Rattle.std.proofs.lemmas.Int.{to_z-of_z}
use Rattle.std.proofs.Common.{refl}
use Rattle.axiom_instances.specs.Fitting.{gives, fits, needs, number, term, heap, ref, int, refs, column, quantified}
use Rattle.axiom_steps.proofs.Tables.{row_of}
use Rattle.axiom_steps.proofs.axioms.steps_of.Goals as goal

pub returns : goal.returns
unfolding gives fits needs number term heap ref int refs column quantified
returns c = rw (to_z-of_z w128 c.args.number c.ranges.number) at (rw (to_z-of_z w128 c.args.part c.ranges.part) at (row_of c.part_at.ensures (λ l tree. (((λ ns. refl), tt), (((λ ns. refl), tt), (((λ ns. refl), ((λ ns. refl), ((λ ns. refl), ((λ ns. refl), tt)))), (((λ ns. refl), ((λ ns. refl), tt)), (((λ ns. refl), tt), (((λ ns. refl), ((λ ns. refl), ((λ ns. refl), tt))), (((λ ns. refl), ((λ ns. refl), tt)), (((λ ns. refl), tt), (((λ ns. refl), tt), (((λ ns. refl), tt), (((λ ns. refl), tt), (((λ ns. refl), tt), (((λ ns. refl), tt), (((λ ns. refl), ((λ ns. refl), tt)), (((λ ns. refl), tt), (((λ ns. refl), tt), (((λ ns. refl), tt), (((λ ns. refl), tt), (((λ ns. refl), tt), (((λ ns. refl), tt), (((λ ns. refl), ((λ ns. refl), ((λ ns. refl), ((λ ns. refl), tt)))), (((λ ns. refl), ((λ ns. refl), ((λ ns. refl), ((λ ns. refl), ((λ ns. refl), tt))))), (((λ ns. refl), ((λ ns. refl), ((λ ns. refl), ((λ ns. refl), ((λ ns. refl), ((λ ns. refl), ((λ ns. refl), tt))))))), (((λ ns. refl), ((λ ns. refl), ((λ ns. refl), ((λ ns. refl), ((λ ns. refl), ((λ ns. refl), ((λ ns. refl), ((λ ns. refl), ((λ ns. refl), ((λ ns. refl), ((λ ns. refl), ((λ ns. refl), ((λ ns. refl), tt))))))))))))), (((λ ns. refl), tt), (((λ ns. refl), tt), (((λ ns. refl), tt), (((λ ns. refl), ((λ ns. refl), tt)), (((λ ns. refl), ((λ ns. refl), tt)), tt))))))))))))))))))))))))))))))))
