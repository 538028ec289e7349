use Rattle.method.specs.declared.program.StructInfo.{StructInfo}
use Rattle.conditions.specs.Quantified.{specs_quantifiers, struct_words}
use Rattle.program_quantifiers.proofs.Adding.{AddsUpTo}
use Rattle.program_quantifiers.proofs.functions.add_structs.Given as goal

abbrev pub invariant-loop-info : goal.invariant-loop-info
invariant-loop-info l = AddsUpTo (λ (s : Unit {0}). Unit {0}) (λ (s : Unit {0}) (x : StructInfo). specs_quantifiers l.program x.invariants.items struct_words) l.fn.list l.list l.structs l.info-index
