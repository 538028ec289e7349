-- Parts and rules of a grammar suit a test that holds of every value, whatever they are.
use Rattle.std.proofs.Common.{◌≡◌, ◌⊎◌, inl, inr, Bool, true, refl}
use Rattle.ebnf.specs.Rules.{token, below, nothing, row, by_value, by_next, many, until, form, pick, chain, climb, Grammar}
use Rattle.ebnf.specs.Sets.{PartOf, RuleOf}
use Rattle.tree_forms.proofs.Fine.{Tests, Known, Good, Holds, Suits, either, part_then}

either_true : {B C : Type 0} (x : B ⊎ C) → either (λ b. true) (λ c. true) x ≡ true
either_true (inl b) = refl
either_true (inr c) = refl

module _ (g : Grammar) (Ok : g.T → Type 0) (high : (n : g.N) → g.V n → Bool) where
  any_holds : {A : Type 0} (p : PartOf g A) (Q : A → Type 0) → ((a : A) → Q a) → Holds g Ok high p Q
  any_holds (token c k f) Q all = λ x o. all (f x)
  any_holds (below n f) Q all = λ b e. all (f b)
  any_holds (nothing v) Q all = all v
  any_holds (row p q) Q all = any_holds p _ (λ b. any_holds q _ (λ f. all (f b)))
  any_holds (by_value p t q r) Q all = any_holds p _ (λ b. (λ e. any_holds q _ (λ f. all (f b)), λ e. any_holds r _ (λ f. all (f b))))
  any_holds (by_next p q) Q all = (any_holds p Q all, any_holds q Q all)
  any_holds (many p f) Q all = (λ b. true, any_holds p _ (λ b. refl), λ bs e. all (f bs))
  any_holds (until p f) Q all = (λ b. true, λ c. true, any_holds p _ (λ x. either_true x), λ bs c e d. all (f bs c))

  any_suits : {A : Type 0} (r : RuleOf g A) (v : A → Bool) → ((a : A) → v a ≡ true) → Suits g Ok high r v
  any_suits (form p) v all = any_holds p _ all
  any_suits (pick p q) v all = (any_suits p v all, any_suits q v all)
  any_suits (chain s t l f) v all = (any_suits s v all, any_holds l _ (λ b a e d. all (f a b)))
  any_suits (climb s c m l) v all = (λ a. true, any_holds s _ (λ a. refl), any_holds m _ (λ f x a e. refl), any_holds l _ (λ f x a e. all (f x a)))

module _ {M : Tests} where
  pub any_rule : {A : Type 0} {r : RuleOf M.g A} {v : A → Bool} → ((a : A) → v a ≡ true) → Good M r v
  any_rule {r = r} {v = v} all = record { suits = any_suits M.g M.Ok M.high r v all }

  any_part : {A : Type 0} {p : PartOf M.g A} → Known M p (λ a. Unit {0})
  any_part {p = p} = record { holds = any_holds M.g M.Ok M.high p _ (λ a. tt) }

  -- behind a part of which nothing is asked
  pub past : {A B : Type 0} {p : PartOf M.g B} {q : PartOf M.g (B → A)} {Q : A → Type 0} → ((b : B) → Known M q (λ f. Q (f b))) → Known M (row p q) Q
  past {p = p} h = part_then any_part (λ b d. h b)
