-- The table of values, by computation.
use Rattle.std.proofs.Common.{◌≡◌, pos, true, false, List, [], ◌∷◌, Some, inr, refl, ap, map}
use Rattle.object_types.specs.References.{thread, same_ref, null as no_ref}
use Rattle.object_types.specs.Sets.{is_in}
use Rattle.method.specs.Trace.{Memory}
use Rattle.method.specs.RowGood.{program}
use Rattle.terms.specs.declared.term.Kind.TheVariants as k
use Rattle.terms.specs.Formula.{Formula, Node, Stop}
use Rattle.term_meaning.specs.Meaning.{Value, BoolValue, Gives, AllHolds, InvHolds, truth}
use Rattle.language_rows.specs.Evaluation.{value_of}
use Rattle.language_rows.specs.Values.{language, env, HaveValues, numbers, references, reads, stores, changes, truths, TermsHaveValues}
use Rattle.language_rows.proofs.Evaluated.{value_is}

module _ (m : Memory) where
  computed_hold : (rs : List (Formula × Value)) → map (λ (r : Formula × Value). value_of (program m) (env m) r.0) rs ≡ map (λ (r : Formula × Value). Some r.1) rs → HaveValues m rs
  computed_hold [] h = tt
  computed_hold (r ∷ rs) h = (value_is (program m) (AllHolds (language m) (thread 1)) (InvHolds (language m) (thread 1)) (env m) r.0 r.1 cc, computed_hold rs cc)

  always : Gives (language m) (env m) (Node k.All (pos 0) Stop) (BoolValue true)
  always = ([], refl, record { is_bool = refl; yes = λ t r ok y g. ap truth g.2; holds = λ h. refl })

  never : Gives (language m) (env m) (Node k.All (pos 1) Stop) (BoolValue false)
  never = (
    [],
    refl,
    record {
      is_bool = refl;
      yes = λ t. absurd (cc);
      holds = λ h. h no_ref refl (BoolValue false) (BoolValue true ∷ [], (BoolValue true, [], refl, ([], refl, refl), refl), refl);
    },
  )

pub terms_have_values : TermsHaveValues
unfolding same_ref is_in
terms_have_values m = (
  computed_hold m numbers refl,
  computed_hold m references refl,
  computed_hold m reads refl,
  computed_hold m stores refl,
  computed_hold m changes refl,
  computed_hold m truths refl,
  (always m, (never m, (([], refl, (no_ref, refl, inr (λ q ok y g. ap truth g.2, refl))), tt))),
)
