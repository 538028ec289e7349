-- Ways through facts about new constants: any values of their types can be theirs.
use Rattle.std.proofs.Common.{◌≡◌, true, refl, subst}
use Rattle.std.specs.Prelude.{int_le}
use Rattle.std.proofs.lemmas.Bool.{and_parts}
use Rattle.object_types.specs.declared.references.Ref.{Ref}
use Rattle.object_types.specs.declared.values.Value.{Value as Scalar}
use Rattle.object_types.specs.declared.values.Value.TheVariants.{Int, Ref as Refers}
use Rattle.int_ranges.specs.Ranges.{least_of, greatest_of}
use Rattle.method.specs.declared.program.DeclaredType.{DeclaredType}
use Rattle.method.specs.declared.program.DeclaredType.TheVariants.{Integer, Pointer, Object, Claim}
use Rattle.method.specs.Tables.{in_type}
use Rattle.method.specs.WellFormed.{is_value}
use Rattle.terms.specs.Formula.{Formula}
use Rattle.term_meaning.specs.Meaning.{Language}
use Rattle.conditions.specs.Formulas.{le, all_of}
use Rattle.conditions.specs.Formulas as f
use Rattle.conditions.specs.Symbolic.{term, ranges}
use Rattle.conditions.specs.Paths.{Execution, Gives, after, fact, facts}
use Rattle.conditions.specs.Code.{State, ValueAndState, new_of, new_value}
use Rattle.conditions.specs.Ways.{AllHold}
use Rattle.conditions.proofs.FromRuns.{count_of}
use Rattle.conditions.proofs.Ways.{facts_both}
use Rattle.condition_meaning.proofs.Truths as truths
use Rattle.condition_meaning.proofs.Columns as columns
use Rattle.condition_meaning.proofs.Environments.{Environment, Holds, Has, holds_is}
use Rattle.condition_meaning.proofs.Extensions.{Extension, an_integer, is_integer, a_reference, is_refers, extended, unextended}
use Rattle.condition_meaning.proofs.Scenes.{Stands}

module _ (l : Language) (t : Ref) where
  abbrev E : Type 0
  E = Environment l t

  -- the range facts of a type hold of its values
  pub ranges_hold : (d : E) (ty : DeclaredType) (x : Formula) (a : Scalar) → in_type ty a ≡ true → is_value a ≡ true → Has l t d x a → AllHold E (Holds l t) d (ranges ty x)
  unfolding in_type
  ranges_hold d (Integer c) x (Int z) h k i =
      let both = truths.is_le l d.env (f.int (least_of c)) x (Int (least_of c)) (Int z) (truths.has_int l d.env (least_of c)) i in
      let other = truths.is_le l d.env x (f.int (greatest_of c)) (Int z) (Int (greatest_of c)) i (truths.has_int l d.env (greatest_of c)) in
      let parts = and_parts (int_le (least_of c) z) (int_le z (greatest_of c)) h in
      (holds_is l t d (le (f.int (least_of c)) x) (subst (λ b. truths.Is l d.env (le (f.int (least_of c)) x) b) parts.0 both), (holds_is l t d (le x (f.int (greatest_of c))) (subst (λ b. truths.Is l d.env (le x (f.int (greatest_of c))) b) parts.1 other), tt))
  ranges_hold d (Integer c) x (Refers r) h k i = absurd (cc)
  ranges_hold d (Pointer n) x (Int z) h k i = absurd (cc)
  ranges_hold d (Pointer n) x (Refers r) h k i = (holds_is l t d (all_of (ranges (Pointer n) x)) (subst (λ b. truths.Is l d.env (all_of (ranges (Pointer n) x)) b) h (columns.is_ref_in_type l d.env (Pointer n) x r refl k i)), tt)
  ranges_hold d Object x (Int z) h k i = absurd (cc)
  ranges_hold d Object x (Refers r) h k i = (holds_is l t d (all_of (ranges Object x)) (subst (λ b. truths.Is l d.env (all_of (ranges Object x)) b) h (columns.is_ref_in_type l d.env Object x r refl k i)), tt)
  ranges_hold d Claim x (Int z) h k i = absurd (cc)
  ranges_hold d Claim x (Refers r) h k i = (holds_is l t d (all_of (ranges Claim x)) (subst (λ b. truths.Is l d.env (all_of (ranges Claim x)) b) h (columns.is_ref_in_type l d.env Claim x r refl k i)), tt)

  -- from what holds before, all facts of the code and what holds after, if the constants that it makes are as wanted
  pub record Way (st : State) (q : Execution State) (Before After : E → Type 0) : Type 1 where
    pub extension : Extension l t (count_of st) (count_of q.gives)
    pub goes : (d : E) → extension.So d → Before d → AllHold E (Holds l t) d (facts q.path) × After d

  pub way_here : (st : State) (Before : E → Type 0) → Way st (Gives st) Before Before
  unfolding unextended
  way_here st Before = record { extension = unextended l t (count_of st); goes = λ d so b. (tt, b) }

  pub way_after : (st : State) (q : Execution State) (g : State → Execution State) (A B C : E → Type 0) → Way st q A B → Way q.gives (g q.gives) B C → Way st (after q g) A C
  unfolding extended
  way_after st q g A B C x y = record {
    extension = extended l t (count_of st) (count_of q.gives) (count_of (g q.gives).gives) x.extension y.extension;
    goes = λ d so a. let z = x.goes d so.0 a in let w = y.goes d so.1 z.1 in (facts_both E (Holds l t) q.path (g q.gives).path d z.0 w.0, w.1);
  }

  pub way_fact : (st : State) (h : Formula) (q : Execution State) (A B : E → Type 0) → ((d : E) → A d → Holds l t d h) → Way st q A B → Way st (fact h q) A B
  way_fact st h q A B holds x = record { extension = x.extension; goes = λ d so a. let z = x.goes d so a in ((holds d a, z.0), z.1) }

  -- a new constant with this value
  pub way_new : (ty : DeclaredType) (a : Scalar) (st : State) (g : ValueAndState → Execution State) (A B : E → Type 0) → in_type ty a ≡ true → is_value a ≡ true
      → Way (new_of ty st).state (g (new_of ty st)) (λ d. A d × Stands l d.env (new_of ty st).value a) B → Way st (after (new_value ty st) g) A B
  unfolding in_type extended
  way_new (Integer c) (Int z) st g A B h k x = record {
    extension = extended l t (count_of st) (count_of (new_of (Integer c) st).state) (count_of (g (new_of (Integer c) st)).gives) (an_integer l t (count_of st) z) x.extension;
    goes = λ d so a.
        let i = is_integer l t (count_of st) z d so.0 in
        let r = ranges_hold d (Integer c) (term (new_of (Integer c) st).value) (Int z) h k i in
        let w = x.goes d so.1 (a, (z, i, refl)) in
        ((r.0, (r.1.0, w.0)), w.1);
  }
  way_new (Integer c) (Refers r) st g A B h k x = absurd (cc)
  way_new (Pointer n) (Int z) st g A B h k x = absurd (cc)
  way_new (Pointer n) (Refers q) st g A B h k x = record {
    extension = extended l t (count_of st) (count_of (new_of (Pointer n) st).state) (count_of (g (new_of (Pointer n) st)).gives) (a_reference l t (count_of st) q k) x.extension;
    goes = λ d so a.
        let i = is_refers l t (count_of st) q k d so.0 in
        let r = ranges_hold d (Pointer n) (term (new_of (Pointer n) st).value) (Refers q) h k i in
        let w = x.goes d so.1 (a, (q, i, refl)) in
        ((r.0, w.0), w.1);
  }
  way_new Object (Int z) st g A B h k x = absurd (cc)
  way_new Object (Refers q) st g A B h k x = record {
    extension = extended l t (count_of st) (count_of (new_of Object st).state) (count_of (g (new_of Object st)).gives) (a_reference l t (count_of st) q k) x.extension;
    goes = λ d so a.
        let i = is_refers l t (count_of st) q k d so.0 in
        let r = ranges_hold d Object (term (new_of Object st).value) (Refers q) h k i in
        let w = x.goes d so.1 (a, (q, i, refl)) in
        ((r.0, w.0), w.1);
  }
  way_new Claim (Int z) st g A B h k x = absurd (cc)
  way_new Claim (Refers q) st g A B h k x = record {
    extension = extended l t (count_of st) (count_of (new_of Claim st).state) (count_of (g (new_of Claim st)).gives) (a_reference l t (count_of st) q k) x.extension;
    goes = λ d so a.
        let i = is_refers l t (count_of st) q k d so.0 in
        let r = ranges_hold d Claim (term (new_of Claim st).value) (Refers q) h k i in
        let w = x.goes d so.1 (a, (q, i, refl)) in
        ((r.0, w.0), w.1);
  }
