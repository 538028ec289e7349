-- The objects that a block lists, and tests behind others.
use Rattle.std.specs.Prelude.{◌≡◌, ℕ, zero, suc, ◌+◌, ◌<◌, ◌≤◌, true, false, List, [], ◌∷◌, ◌++◌, length, drop, min, Vec, if◌then◌else◌}
use Rattle.std.specs.Global.{Global}
use Rattle.std.proofs.Common.{refl, ap, sym, ◌∙◌, subst, get_or, drop-cons, add-one, append-nil, append_assoc, arith}
use Rattle.std.proofs.Math.ListN.{drop_of_length-le}
use Rattle.terms.specs.declared.term.Term.{Term}
use Rattle.terms.specs.Formula.{Formula}
use Rattle.method.specs.declared.program.Listed.{Listed}
use Rattle.method.specs.declared.program.Program.{Program}
use Rattle.method.specs.Actions.{listed_exprs}
use Rattle.conditions.specs.Code as spec
use Rattle.conditions.specs.Symbolic as symbolic
use Rattle.conditions.specs.Formulas.{imp}
use Rattle.conditions.specs.Actions.{plain_objects, imply_all}
use Rattle.condition_formulas.specs.declared.symbolic.Symbolic.{Symbolic}
use Rattle.condition_formulas.specs.Symbolics.{IsSymbolic}
use Rattle.condition_formulas.specs.Standing.{StandsAs, StandAll, Each, Later}
use Rattle.condition_formulas.proofs.Rows.{at, as_long}
use Rattle.condition_code.specs.declared.state.Spot.{Spot}
use Rattle.condition_code.specs.declared.state.State.{State}
use Rattle.condition_code.specs.declared.walk.Step.{Step}
use Rattle.condition_code.specs.States.{IsSpot, IsState}
use Rattle.condition_code.specs.Walks.{AreIds, GoesTo}
use Rattle.condition_code.proofs.Codes.{CodesTo, one_code, every_code}
use Rattle.condition_actions.specs.Blocks.{plain_ids}

-- Listed objects, worked out one by one.

many_listed : (xs : List Listed) → length (listed_exprs xs) ≡ length xs
many_listed [] = refl
many_listed (x ∷ xs) = ap suc (many_listed xs)

listed_at : (xs : List Listed) (i : ℕ) (d : Listed) → get_or (listed_exprs xs) i d.object ≡ (get_or xs i d).object
listed_at [] i d = refl
listed_at (x ∷ xs) zero d = refl
listed_at (x ∷ xs) (suc i) d = listed_at xs i d

pub one_listed : {p : Program} {a : Spot} {st : State} {g0 g1 g2 g3 : List Term} {p0 p1 p2 : List Step} {v w : Vec ℕ Global} {i id : ℕ} {c : Symbolic} (ls : List Listed) (x : Listed) → x ≡ get_or ls i x → CodesTo p a st (listed_exprs ls) g0 g1 p0 p1 v i → i < length ls → ((b : spec.Spot) (s : spec.State) → IsSpot g1 a b → IsState g1 st s → GoesTo IsSymbolic g1 g2 p1 p2 c (spec.code p b s x.object)) → Later g2 g3 → ((u : symbolic.Symbolic) → IsSymbolic g2 c u → StandsAs g3 id (symbolic.term u)) → w.items ≡ v.items ++ id ∷ [] → CodesTo p a st (listed_exprs ls) g0 g3 p0 p2 w (i + 1)
one_listed {i = i} ls x item so_far below coded later is more =
    let within : i < length (listed_exprs ls) = subst (λ (n : ℕ). i < n) (sym (many_listed ls)) below in
    one_code x.object (ap (λ (y : Listed). y.object) item ∙ sym (listed_at ls i x)) so_far within coded later is more

pub every_listed : {p : Program} {a : Spot} {st : State} {old new : List Term} {before behind : List Step} {v : Vec ℕ Global} {i : ℕ} (ls : List Listed) → CodesTo p a st (listed_exprs ls) old new before behind v i → length ls ≤ i → (b : spec.Spot) (s : spec.State) → IsSpot old a b → IsState old st s → GoesTo AreIds old new before behind v (spec.all_code p b s (listed_exprs ls))
every_listed {i = i} ls so_far above b s hb hs =
    let end : length (listed_exprs ls) ≤ i = subst (λ (n : ℕ). n ≤ i) (sym (many_listed ls)) above in
    every_code so_far end b s hb hs

-- Those that are no claims.

each_plain : (ts : List Term) (ls : List Listed) (ids : List ℕ) (os : List Formula) → Each ts ids os → Each ts (plain_ids ls ids) (plain_objects ls os)
each_plain ts [] ids os all = tt
each_plain ts (l ∷ ls) [] [] all = tt
each_plain ts (l ∷ ls) [] (o ∷ os) all = absurd all
each_plain ts (l ∷ ls) (id ∷ ids) [] all = absurd all
each_plain ts (l ∷ ls) (id ∷ ids) (o ∷ os) all =
    elim (l.is_claim) as (λ b. Each ts (if b then plain_ids ls ids else id ∷ plain_ids ls ids) (if b then plain_objects ls os else o ∷ plain_objects ls os)) [ true ↦ each_plain ts ls ids os all.1 | false ↦ (all.0, each_plain ts ls ids os all.1) ]

pub plain_stand : {ts : List Term} {ids : List ℕ} {os : List Formula} (ls : List Listed) → StandAll ts ids os → StandAll ts (plain_ids ls ids) (plain_objects ls os)
plain_stand {ts} {ids} {os} ls all = record { each = each_plain ts ls ids os all.each }

-- behind the first n
abbrev pub plain_left : List Listed → List ℕ → ℕ → List ℕ
plain_left ls ids n = plain_ids (drop n ls) (drop n ids)

module _ (ls : List Listed) (ids : List ℕ) (n : ℕ) (x : Listed) (o : ℕ) (lx : n < length ls) (lo : n < length ids) (ix : x ≡ get_or ls n x) (io : o ≡ get_or ids n o) where
  left_is : plain_left ls ids n ≡ (if x.is_claim then plain_left ls ids (n + 1) else o ∷ plain_left ls ids (n + 1))
  left_is =
      (λ j. plain_ids (drop-cons ls n x lx j) (drop-cons ids n o lo j))
      ∙ (λ j. plain_ids (sym ix j ∷ drop (sym (add-one n) j) ls) (sym io j ∷ drop (sym (add-one n) j) ids))

  pub claim_passed : (got whole : List ℕ) → x.is_claim ≡ true → got ++ plain_left ls ids n ≡ whole → got ++ plain_left ls ids (n + 1) ≡ whole
  claim_passed got whole is before = ap (λ rs. got ++ rs) (sym (left_is ∙ ap (λ b. if b then plain_left ls ids (n + 1) else o ∷ plain_left ls ids (n + 1)) is)) ∙ before

  pub object_taken : (got next whole : List ℕ) → x.is_claim ≡ false → next ≡ got ++ o ∷ [] → got ++ plain_left ls ids n ≡ whole → next ++ plain_left ls ids (n + 1) ≡ whole
  object_taken got next whole is more before =
      ap (λ rs. rs ++ plain_left ls ids (n + 1)) more ∙ append_assoc got (o ∷ []) (plain_left ls ids (n + 1))
      ∙ ap (λ rs. got ++ rs) (sym (left_is ∙ ap (λ b. if b then plain_left ls ids (n + 1) else o ∷ plain_left ls ids (n + 1)) is)) ∙ before

none_left : (ls : List Listed) (ids : List ℕ) (n : ℕ) → min (length ls) (length ids) ≤ n → plain_left ls ids n ≡ []
none_left [] ids zero h = refl
none_left [] ids (suc n) h = refl
none_left (l ∷ ls) [] zero h = refl
none_left (l ∷ ls) [] (suc n) h = none_given (drop n ls)
  where
    none_given : (xs : List Listed) → plain_ids xs [] ≡ []
    none_given [] = refl
    none_given (x ∷ xs) = refl
none_left (l ∷ ls) (o ∷ ids) zero h = absurd (omega arith)
none_left (l ∷ ls) (o ∷ ids) (suc n) h = none_left ls ids n (omega arith)

pub all_taken : (ls : List Listed) (ids : List ℕ) (n : ℕ) (got whole : List ℕ) → n ≡ min (length ls) (length ids) → got ++ plain_left ls ids n ≡ whole → got ≡ whole
all_taken ls ids n got whole h before = sym (append-nil got) ∙ ap (λ rs. got ++ rs) (sym (none_left ls ids n (omega arith))) ∙ before

-- Behind tests, from the last on.

-- what a loop keeps that puts guards in front of a formula
pub record Guards (old new : List Term) (ids : List ℕ) (formula i id : ℕ) : Type 0 where
  pub within : i ≤ length ids
  pub later : Later old new
  pub goes : (gs : List Formula) (f : Formula) → StandAll old ids gs → StandsAs old formula f → StandsAs new id (imply_all (drop i gs) f)

pub guards_none : (ts : List Term) (ids : List ℕ) (formula i : ℕ) → i ≡ length ids → Guards ts ts ids formula i formula
guards_none ts ids formula i end = record {
  within = omega (arith, end);
  later = λ n f h. h;
  goes = λ gs f all is.
      let gone : drop i gs ≡ [] = drop_of_length-le gs (omega (arith, end, as_long all)) in
      subst (λ (hs : List Formula). StandsAs ts formula (imply_all hs f)) (sym gone) is;
}

pub guards_one : (old mid new : List Term) (ids : List ℕ) (formula i j id next : ℕ) → Guards old mid ids formula i id → j + 1 ≡ i → Later mid new → ((g f : Formula) → StandsAs mid (get_or ids j 0) g → StandsAs mid id f → StandsAs new next (imp g f)) → Guards old new ids formula j next
guards_one old mid new ids formula i j id next so_far one later made = record {
  within = omega (arith, so_far.within);
  later = λ n f h. later n f (so_far.later n f h);
  goes = λ gs f all is.
      let here = at j all (omega (arith, so_far.within)) in
      let front : drop j gs ≡ here.tree ∷ drop i gs = here.is ∙ ap (λ (k : ℕ). here.tree ∷ drop k gs) one in
      subst (λ (hs : List Formula). StandsAs new next (imply_all hs f)) (sym front) (made here.tree (imply_all (drop i gs) f) (so_far.later _ _ here.here) (so_far.goes gs f all is));
}

pub guards_all : {old new : List Term} {ids : List ℕ} {formula i id : ℕ} → Guards old new ids formula i id → i ≡ 0 → (gs : List Formula) (f : Formula) → StandAll old ids gs → StandsAs old formula f → StandsAs new id (imply_all gs f)
guards_all {new = new} {id = id} so_far first gs f all is = subst (λ (k : ℕ). StandsAs new id (imply_all (drop k gs) f)) first (so_far.goes gs f all is)
