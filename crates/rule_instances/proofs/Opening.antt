-- Terms that open or close an object.
use Rattle.std.specs.Prelude.{◌≡◌, ◌<◌, ℕ, pos, List, [], ◌∷◌, length, None}
use Rattle.std.proofs.Common.{refl, sym, ap, ◌∙◌, subst}
use Rattle.std.proofs.lemmas.Option.{slice_get_within}
use Rattle.terms.specs.declared.term.Term.{Term}
use Rattle.terms.specs.declared.term.Kind.{Kind}
use Rattle.terms.specs.declared.term.Kind.TheVariants as k
use Rattle.terms.specs.Formula.{Formula, Formulas, Node, Stands}
use Rattle.conditions.specs.Formulas.{row}
use Rattle.axiom_instances.specs.Terms.{kind_of, arguments_of}
use Rattle.axiom_instances.specs.Axioms.{change_of}
use Rattle.condition_formulas.specs.Standing.{StandsAs, Each}
use Rattle.condition_formulas.proofs.Walks.{Opened}
use Rattle.rule_instances.specs.declared.changes.Change.{Change}
use Rattle.rule_instances.specs.declared.changes.Three.{Three}
use Rattle.rule_instances.specs.Changes.{AreThree, IsChange}

record Parts (ts : List Term) (a b c : ℕ) (parts : List Formula) : Type 0 where
  x : Formula
  y : Formula
  z : Formula
  are : parts ≡ x ∷ y ∷ z ∷ []
  first : StandsAs ts a x
  second : StandsAs ts b y
  third : StandsAs ts c z

parts_of : (ts : List Term) (a b c : ℕ) (parts : List Formula) → Each ts (a ∷ b ∷ c ∷ []) parts → Parts ts a b c parts
parts_of ts a b c [] each = absurd each
parts_of ts a b c (x ∷ []) each = absurd each.1
parts_of ts a b c (x ∷ y ∷ []) each = absurd each.1.1
parts_of ts a b c (x ∷ y ∷ z ∷ []) each = record { x = x; y = y; z = z; are = refl; first = each.0; second = each.1.0; third = each.1.1.0 }
parts_of ts a b c (x ∷ y ∷ z ∷ w ∷ ws) each = absurd each.1.1.1

three_of : {ts : List Term} {t : Term} {f : Formula} (args : Three) → (o : Opened ts t f) → AreThree args t.args → Parts ts args.first args.second args.third o.parts
three_of {ts} args o three = parts_of ts args.first args.second args.third o.parts (subst (λ (ids : List ℕ). Each ts ids o.parts) three.are o.all.each)

changes : {ts : List Term} {t : Term} {f : Formula} (args : Three) → (o : Opened ts t f) → (p : Parts ts args.first args.second args.third o.parts) → (kind : Kind) → t.kind ≡ kind → change_of (kind_of f) (arguments_of f) ≡ change_of kind (row (p.x ∷ p.y ∷ p.z ∷ []))
changes {t = t} args o p kind is = ap (λ (g : Formula). change_of (kind_of g) (arguments_of g)) o.is ∙ ap (λ (j : Kind). change_of j (row o.parts)) is ∙ ap (λ (ps : List Formula). change_of kind (row ps)) p.are

pub opens_object : {ts : List Term} {t : Term} {f : Formula} (args : Three) (c : Change) → Opened ts t f → t.kind ≡ k.Open → AreThree args t.args → c.heap ≡ args.first → c.object ≡ args.second → c.owner ≡ args.third → c.mode ≡ 1 → IsChange ts c f
opens_object {ts} args c o is three h ob ow mo =
    let p = three_of args o three in
    record {
      change = record { heap = p.x; object = p.y; mode = pos 1; owner = p.z };
      is = changes args o p k.Open is;
      heap = subst (λ (n : ℕ). StandsAs ts n p.x) (sym h) p.first;
      object = subst (λ (n : ℕ). StandsAs ts n p.y) (sym ob) p.second;
      owner = subst (λ (n : ℕ). StandsAs ts n p.z) (sym ow) p.third;
      mode = ap pos mo;
    }

pub closes_object : {ts : List Term} {t : Term} {f : Formula} (args : Three) (c : Change) → Opened ts t f → t.kind ≡ k.Close → AreThree args t.args → c.heap ≡ args.first → c.object ≡ args.second → c.owner ≡ args.second → c.mode ≡ 2 → IsChange ts c f
closes_object {ts} args c o is three h ob ow mo =
    let p = three_of args o three in
    record {
      change = record { heap = p.x; object = p.y; mode = pos 2; owner = p.y };
      is = changes args o p k.Close is;
      heap = subst (λ (n : ℕ). StandsAs ts n p.x) (sym h) p.first;
      object = subst (λ (n : ℕ). StandsAs ts n p.y) (sym ob) p.second;
      owner = subst (λ (n : ℕ). StandsAs ts n p.y) (sym ow) p.second;
      mode = ap pos mo;
    }

-- no three arguments: nothing is changed
no_three : (ts : List Term) (ids : List ℕ) (x y z : Formula) → Each ts ids (x ∷ y ∷ z ∷ []) → ((a b c : ℕ) → ids ≡ a ∷ b ∷ c ∷ [] → ⊥) → ⊥
no_three ts [] x y z each few = each
no_three ts (a ∷ []) x y z each few = each.1
no_three ts (a ∷ b ∷ []) x y z each few = each.1.1
no_three ts (a ∷ b ∷ c ∷ []) x y z each few = few a b c refl
no_three ts (a ∷ b ∷ c ∷ d ∷ ds) x y z each few = each.1.1.1

not_three : (ts : List Term) (ids : List ℕ) (parts : List Formula) → Each ts ids parts → ((a b c : ℕ) → ids ≡ a ∷ b ∷ c ∷ [] → ⊥) → (kind : Kind) → change_of kind (row parts) ≡ None
not_three ts ids [] each few k.Open = refl
not_three ts ids (x ∷ []) each few k.Open = refl
not_three ts ids (x ∷ y ∷ []) each few k.Open = refl
not_three ts ids (x ∷ y ∷ z ∷ []) each few k.Open = absurd (no_three ts ids x y z each few)
not_three ts ids (x ∷ y ∷ z ∷ w ∷ ws) each few k.Open = refl
not_three ts ids [] each few k.Close = refl
not_three ts ids (x ∷ []) each few k.Close = refl
not_three ts ids (x ∷ y ∷ []) each few k.Close = refl
not_three ts ids (x ∷ y ∷ z ∷ []) each few k.Close = absurd (no_three ts ids x y z each few)
not_three ts ids (x ∷ y ∷ z ∷ w ∷ ws) each few k.Close = refl
not_three ts ids parts each few kind = refl

pub without_three : {ts : List Term} {t : Term} {f : Formula} → Opened ts t f → ((a b c : ℕ) → t.args ≡ a ∷ b ∷ c ∷ [] → ⊥) → change_of (kind_of f) (arguments_of f) ≡ None
without_three {ts} {t} o few = ap (λ (g : Formula). change_of (kind_of g) (arguments_of g)) o.is ∙ not_three ts t.args o.parts o.all.each few t.kind

by_kind : (kind : Kind) (fs : Formulas) → (kind ≡ k.Open → ⊥) → (kind ≡ k.Close → ⊥) → change_of kind fs ≡ None
by_kind k.Open fs not_open not_close = absurd (not_open refl)
by_kind k.Close fs not_open not_close = absurd (not_close refl)
by_kind kind fs not_open not_close = refl

pub other_kind : {ts : List Term} {t : Term} {f : Formula} → Opened ts t f → (t.kind ≡ k.Open → ⊥) → (t.kind ≡ k.Close → ⊥) → change_of (kind_of f) (arguments_of f) ≡ None
other_kind {t = t} o not_open not_close = ap (λ (g : Formula). change_of (kind_of g) (arguments_of g)) o.is ∙ by_kind t.kind (row o.parts) not_open not_close

-- a node's number is within
stands_within : (ts : List Term) (id : ℕ) (f : Formula) → Stands ts id f → id < length ts
stands_within ts id (Node k n fs) (args, is, all) = slice_get_within ts id _ is

pub is_within : {ts : List Term} {id : ℕ} {f : Formula} → StandsAs ts id f → id < length ts
is_within {ts} {id} {f} is = stands_within ts id f is.tree

pub same_three : {t : Three} {numbers args : List ℕ} → numbers ≡ args → AreThree t numbers → AreThree t args
same_three {t} e three = subst (λ (ids : List ℕ). AreThree t ids) e three
