-- The languages of the lock and of the bag: their quantified formulas by number, the invariants of their types, the conjuncts of their claims. Own.
use Rattle.std.specs.Prelude.{[], ◌∷◌, pos}
use Rattle.method.specs.Trace.{Memory}
use Rattle.terms.specs.declared.term.Kind.TheVariants as k
use Rattle.terms.specs.Formula.{Formula, Node}
use Rattle.conditions.specs.Formulas.{row, node, nat, integer, reference, heap, imp, eq, le, get}
use Rattle.conditions.specs.Quantified.{QuantifiedFormula}
use Rattle.term_meaning.specs.Meaning.{Language, Quantified}
use Rattle.lock_conditions.specs.LockProgram.{lock}
use Rattle.language_rows.specs.LockFormulas.{wrap_of_lock, wrap_in_worker, wrap_in_main}
use Rattle.language_rows.specs.BagProgram.{bag}
use Rattle.language_rows.specs.BagFormulas.{members_are_last, lists_cell_alone, owns_no_cell, members_are_closed, wrap_of_bag, claim_lists_no_other}

abbrev pub without_number : QuantifiedFormula → Quantified
without_number q = record { holes = q.arguments; body = q.body }

-- An invariant is over the object, the earlier and the later heap, constants 0 to 2.
abbrev o : Formula
o = reference 0

abbrev later : Formula
later = heap 2

-- v >= 0
abbrev pub data_invariant : Formula
data_invariant = le (nat 0) (get 5 later (o ∷ []))

-- locked == 0 ==> \mine(protected_obj)
abbrev pub lock_invariant : Formula
lock_invariant = imp (eq (get 6 later (o ∷ [])) (nat 0)) (eq (get 3 later (o ∷ get 7 later (o ∷ []) ∷ [])) (nat 1))

abbrev pub lock_language : Memory → Language
lock_language m =
    record {
      program = lock m;
      quantified = without_number wrap_of_lock ∷ without_number wrap_in_worker ∷ without_number wrap_in_main ∷ [];
      invariants = data_invariant ∷ lock_invariant ∷ [];
      conjuncts = node k.True [] ∷ [];
    }

-- n >= 0
abbrev pub cell_invariant : Formula
cell_invariant = le (nat 0) (get 5 later (o ∷ []))

-- formula 0, of the later heap and the object
abbrev pub bag_invariant : Formula
bag_invariant = Node k.All (pos 0) (row (later ∷ o ∷ []))

-- p -> n >= k, over the heap, p and k, constants 0 to 2
abbrev pub is_at_least : Formula
is_at_least = le (integer 2) (get 5 (heap 0) (reference 1 ∷ []))

abbrev pub bag_language : Memory → Language
bag_language m =
    record {
      program = bag m;
      quantified =
          without_number members_are_last ∷ without_number lists_cell_alone ∷ without_number owns_no_cell
          ∷ without_number members_are_closed ∷ without_number wrap_of_bag ∷ without_number claim_lists_no_other
          ∷ [];
      invariants = cell_invariant ∷ bag_invariant ∷ [];
      conjuncts = is_at_least ∷ [];
    }
