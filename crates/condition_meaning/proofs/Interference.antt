-- What a formula on heaps, known true, says of the program's heaps: one is good, or others led from one to the other as the rely allows.
use Rattle.std.proofs.Common.{ℕ, [], ◌∷◌, pos, sym, ap, ◌∙◌}
use Rattle.object_types.specs.declared.references.Ref.{Ref}
use Rattle.object_types.specs.Heap.{Heap}
use Rattle.method.specs.Legal.{Good}
use Rattle.method.specs.Rely.{Rely}
use Rattle.terms.specs.declared.term.Kind.TheVariants as k
use Rattle.terms.specs.Formula.{Formula}
use Rattle.term_meaning.specs.Meaning.{Language, HeapValue}
use Rattle.term_meaning.proofs.Related.{from_good, from_rely}
use Rattle.axiom_instances.proofs.Kit.{Given, none, one, more, node_given, node_has}
use Rattle.axiom_instances.proofs.Facts.{Shown}
use Rattle.conditions.specs.Formulas.{node, me, heap}
use Rattle.condition_meaning.proofs.Environments.{Environment, has_me}

module _ (l : Language) (t : Ref) where
  pub good_of : (e : Environment l t) (y : Formula) (h : Heap) → Shown l e.env y h → Given l e.env (node k.Good (y ∷ [])) → Good l.program h
  good_of e y h is known = let d = node_given (one is.has) known in from_good l.program h is.proper (d.1.yes d.2)

  pub rely_of : (e : Environment l t) (y z : Formula) (h j : Heap) → Shown l e.env y h → Shown l e.env z j → Given l e.env (node k.Rely (me ∷ y ∷ z ∷ [])) → Rely l.program t h j
  rely_of e y z h j is into known =
      let d = node_given (more (has_me l t e) (more is.has (one into.has))) known in
      from_rely l.program h j is.proper into.proper t (d.1.yes d.2)

  -- each constant of the sort is a heap of the program
  pub heap_of : (e : Environment l t) (n : ℕ) → (h : Heap) × Shown l e.env (heap n) h
  heap_of e n =
      let c = e.is_env.heaps (pos n) in
      (c.0, record { has = node_has none (sym (c.2 ∙ ap HeapValue c.3.is)); proper = c.3.proper })
