-- Each field that an expression reads passed the check of a read, on the heap where it is read.
use Rattle.std.proofs.Common.{◌≡◌, ℕ, ◌+◌, Bool, true, false, cond, List, [], ◌∷◌, ◌++◌, Option, append_assoc}
use Rattle.std.specs.List.{All}
use Rattle.std.proofs.lemmas.List.Elements.{All-nil, All-cons, All-append, All-same}
use Rattle.object_types.specs.declared.references.Ref.{Ref}
use Rattle.object_types.specs.declared.values.Value.{Value}
use Rattle.object_types.specs.Values.{referent, truth, says}
use Rattle.object_types.specs.Heap.{Heap}
use Rattle.method.specs.declared.program.CheckKind.TheVariants.{Read}
use Rattle.method.specs.declared.program.Expr.{Expr}
use Rattle.method.specs.declared.program.Expr.TheVariants.{Number, Null, Variable, Field', Not', Negate', Arithmetic', Compare', And', Or', Choose', Convert'}
use Rattle.method.specs.declared.program.Program.{Program}
use Rattle.method.specs.Tables.{read}
use Rattle.method.specs.Overflow.{Overflow}
use Rattle.method.specs.Expressions.{End, Misfit, Failed, Gave, Outcome, Gives, Spot, after, goes_on, check, readable, checks, eval, eval_all}
use Rattle.machine_laws.proofs.Outcomes.{OnEnd, OnGave, after_gave, check_gave, end_map}
use Rattle.race_law.specs.Accesses.{Access, with_value, reading, expr_reads, exprs_read}

-- what holds whatever an outcome gives
any_end : {A : Type 0} (e : End A) (X : Type 0) → X → OnEnd e (λ a. X)
any_end Misfit X x = tt
any_end (Failed n kind line) X x = tt
any_end (Gave a) X x = x

pub any_gave : {A : Type 0} (o : Outcome A) (X : Type 0) → X → OnGave o (λ a. X)
any_gave o X x = any_end o.end X x

-- The accesses of one part and of what comes behind it.
module _ (Q : Access → Type 0) where
  end_followed :
      {A B : Type 0} (w : Option Overflow) (e : End A) (go : A → Outcome B) (xs : List Access) (rest : End A → List Access) (P : A → Type 0) →
      OnEnd e (λ a. All Q xs) → OnEnd e P → ((a : A) → P a → OnGave (go a) (λ b. All Q (rest (Gave a)))) → OnGave (goes_on w e go) (λ b. All Q (xs ++ rest e))
  end_followed w Misfit go xs rest P x y k = tt
  end_followed w (Failed n kind line) go xs rest P x y k = tt
  end_followed w (Gave a) go xs rest P x y k = end_map (go a).end (λ b. All Q (rest (Gave a))) (λ b. All Q (xs ++ rest (Gave a))) (λ b z. All-append Q xs (rest (Gave a)) x z) (k a y)

  -- what comes behind may look at the part's end
  pub followed :
      {A B : Type 0} (o : Outcome A) (go : A → Outcome B) (xs : List Access) (rest : End A → List Access) (P : A → Type 0) →
      OnGave o (λ a. All Q xs) → OnGave o P → ((a : A) → P a → OnGave (go a) (λ b. All Q (rest (Gave a)))) → OnGave (after o go) (λ b. All Q (xs ++ rest o.end))
  followed o go xs rest P x y k = end_followed o.overflow o.end go xs rest P x y k

  pub followed_any :
      {A B : Type 0} (o : Outcome A) (go : A → Outcome B) (xs : List Access) (rest : End A → List Access) →
      OnGave o (λ a. All Q xs) → ((a : A) → OnGave (go a) (λ b. All Q (rest (Gave a)))) → OnGave (after o go) (λ b. All Q (xs ++ rest o.end))
  followed_any o go xs rest x k = followed o go xs rest (λ a. Unit {0}) x (any_gave o (Unit {0}) tt) (λ a u. k a)

  -- it uses its value
  pub behind :
      {A B : Type 0} (o : Outcome A) (go : A → Outcome B) (xs : List Access) (more : A → List Access) →
      OnGave o (λ a. All Q xs) → ((a : A) → OnGave (go a) (λ b. All Q (more a))) → OnGave (after o go) (λ b. All Q (xs ++ with_value o.end more))
  behind o go xs more x k = followed_any o go xs (λ e. with_value e more) x k

  -- it doesn't
  pub beside :
      {A B : Type 0} (o : Outcome A) (go : A → Outcome B) (xs ys : List Access) →
      OnGave o (λ a. All Q xs) → ((a : A) → OnGave (go a) (λ b. All Q ys)) → OnGave (after o go) (λ b. All Q (xs ++ ys))
  beside o go xs ys x k = followed_any o go xs (λ e. ys) x k

  -- nothing is accessed behind
  pub alone : {A B : Type 0} (o : Outcome A) (go : A → Outcome B) (xs : List Access) → OnGave o (λ a. All Q xs) → OnGave (after o go) (λ b. All Q xs)
  alone o go xs x = after_gave o go (λ a. All Q xs) (λ b. All Q xs) x (λ a y. any_gave (go a) (All Q xs) y)

  pub either_all :
      {A : Type 0} (b : Bool) (o1 o2 : Outcome A) (xs ys : List Access) → OnGave o1 (λ a. All Q xs) → OnGave o2 (λ a. All Q ys) →
      OnGave (cond b o1 o2) (λ a. All Q (cond b xs ys))
  either_all true o1 o2 xs ys x y = x
  either_all false o1 o2 xs ys x y = y

  -- three lists, however they are put together
  pub regrouped : {A : Type 0} (o : Outcome A) (xs ys zs : List Access) → OnGave o (λ a. All Q (xs ++ (ys ++ zs))) → OnGave o (λ a. All Q (xs ++ ys ++ zs))
  regrouped o xs ys zs h =
      end_map o.end (λ a. All Q (xs ++ (ys ++ zs))) (λ a. All Q (xs ++ ys ++ zs)) (λ a y. All-same Q (xs ++ ys ++ zs) (xs ++ (ys ++ zs)) (append_assoc xs ys zs) y) h

  pub one : (a : Access) → Q a → All Q (a ∷ [])
  one a q = All-cons Q a [] q (All-nil Q)

module _ (p : Program) (at_ : Spot) (h : Heap) (l : List Value) (Q : Access → Type 0) (reads : (o : Ref) (f : ℕ) → readable p at_ h o f ≡ true → Q (reading p at_ o f)) where
  abbrev reads_of : Expr → ℕ → List Access
  reads_of e n = expr_reads p at_ h l e n

  abbrev value_of : Expr → ℕ → Outcome Value
  value_of e n = eval p at_ h l e n

  pub expr_all : (e : Expr) (n : ℕ) → OnGave (eval p at_ h l e n) (λ v. All Q (expr_reads p at_ h l e n))
  expr_all (Number z) n = All-nil Q
  expr_all Null n = All-nil Q
  expr_all (Variable i) n = All-nil Q
  expr_all (Field' q e f) n =
      behind Q (value_of e n) (λ v. check at_ (readable p at_ h (referent v) f) (n + checks e) Read (Gives (read p h (referent v) f))) (reads_of e n) (λ v. reading p at_ (referent v) f ∷ [])
      (expr_all e n) (λ v.
      check_gave at_ (readable p at_ h (referent v) f) (n + checks e) Read (Gives (read p h (referent v) f)) (λ b. All Q (reading p at_ (referent v) f ∷ []))
      (λ r. one Q (reading p at_ (referent v) f) (reads (referent v) f r)))
  expr_all (Not' q e) n = alone Q (value_of e n) _ (reads_of e n) (expr_all e n)
  expr_all (Negate' q e c) n = alone Q (value_of e n) _ (reads_of e n) (expr_all e n)
  expr_all (Arithmetic' op q a r b c) n =
      beside Q (value_of a n) _ (reads_of a n) (reads_of b (n + checks a)) (expr_all a n) (λ v. alone Q (value_of b (n + checks a)) _ (reads_of b (n + checks a)) (expr_all b (n + checks a)))
  expr_all (Compare' k q a r b) n =
      beside Q (value_of a n) _ (reads_of a n) (reads_of b (n + checks a)) (expr_all a n) (λ v. alone Q (value_of b (n + checks a)) _ (reads_of b (n + checks a)) (expr_all b (n + checks a)))
  expr_all (And' q a r b) n =
      let m = n + checks a in
      behind Q (value_of a n) _ (reads_of a n) (λ v. cond (truth v) (reads_of b m) []) (expr_all a n) (λ v.
      either_all Q (truth v) (after (value_of b m) (λ w. Gives (says (truth w)))) (Gives (says false)) (reads_of b m) [] (alone Q (value_of b m) _ (reads_of b m) (expr_all b m)) (All-nil Q))
  expr_all (Or' q a r b) n =
      let m = n + checks a in
      behind Q (value_of a n) _ (reads_of a n) (λ v. cond (truth v) [] (reads_of b m)) (expr_all a n) (λ v.
      either_all Q (truth v) (Gives (says true)) (after (value_of b m) (λ w. Gives (says (truth w)))) [] (reads_of b m) (All-nil Q) (alone Q (value_of b m) _ (reads_of b m) (expr_all b m)))
  expr_all (Choose' q a r b t c) n =
      let m = n + checks a in
      let i = n + checks a + checks b in
      behind Q (value_of a n) (λ v. cond (truth v) (value_of b m) (value_of c i)) (reads_of a n) (λ v. cond (truth v) (reads_of b m) (reads_of c i)) (expr_all a n) (λ v.
      either_all Q (truth v) (value_of b m) (value_of c i) (reads_of b m) (reads_of c i) (expr_all b m) (expr_all c i))
  expr_all (Convert' q e c) n = alone Q (value_of e n) _ (reads_of e n) (expr_all e n)

  pub eval_all_reads : (es : List Expr) (n : ℕ) → OnGave (eval_all p at_ h l es n) (λ vs. All Q (exprs_read p at_ h l es n))
  eval_all_reads [] n = All-nil Q
  eval_all_reads (e ∷ es) n =
      let ys = exprs_read p at_ h l es (n + checks e) in
      beside Q (value_of e n) _ (reads_of e n) ys (expr_all e n) (λ v. alone Q (eval_all p at_ h l es (n + checks e)) _ ys (eval_all_reads es (n + checks e)))
