-- Grammars in extended Backus-Naur form. From ISO/IEC 14977; own: each tree has a height, and which alternative is meant, or whether a repetition goes on, is seen from the next token or from the value just read.
use Rattle.std.specs.Prelude.{◌⊎◌, ℕ, Bool, List}

-- Part N V T A: what stands in one place of a rule and leaves a value of type A. N are the nonterminals, V n the values of n, T the tokens.
pub data Part (N : Type 0) (V : N → Type 0) (T : Type 0) : Type 0 → Type 1 where
  -- one token of this class, which counts as so high
  token : {A : Type 0} → (class high : ℕ) → (T → A) → Part N V T A
  below : {A : Type 0} → (n : N) → (V n → A) → Part N V T A
  nothing : {A : Type 0} → A → Part N V T A
  -- one behind the other
  row : {A B : Type 0} → Part N V T B → Part N V T (B → A) → Part N V T A
  -- behind a part of whose value the test holds stands the first, else the second
  by_value : {A B : Type 0} → Part N V T B → (B → Bool) → Part N V T (B → A) → Part N V T (B → A) → Part N V T A
  -- the first where the next token begins it, else the second
  by_next : {A : Type 0} → Part N V T A → Part N V T A → Part N V T A
  -- as often as the next token begins it
  many : {A B : Type 0} → Part N V T B → (List B → A) → Part N V T A
  -- again and again, up to the first value of the second kind
  until : {A B C : Type 0} → Part N V T (B ⊎ C) → (List B → C → A) → Part N V T A

-- Rule N V T A: the whole of a nonterminal.
pub data Rule (N : Type 0) (V : N → Type 0) (T : Type 0) : Type 0 → Type 1 where
  -- a tree of its own, one higher than its parts
  form : {A : Type 0} → Part N V T A → Rule N V T A
  -- the first where the next token begins it, else the second
  pick : {A : Type 0} → Rule N V T A → Rule N V T A → Rule N V T A
  -- What stands left, and then links as often as the next token begins one and the test holds of what stands left; each makes a tree that is one higher than its two parts and stands left of the next.
  chain : {A B : Type 0} → Rule N V T A → (A → Bool) → Part N V T B → (A → B → A) → Rule N V T A
  -- What stands left, one level of height down, and then tokens of this class, each with a link behind, of which the last is of the second kind; each makes a tree, as in a chain.
  climb : {A C : Type 0} → Part N V T A → (class : ℕ) → Part N V T (T → A → A) → Part N V T (T → A → C) → Rule N V T C

-- A grammar: the rule of each nonterminal. The other fields say of each nonterminal what follows from its rule: the least height of its trees, the classes of tokens that begin one, those that may go on with one that could end, and a rank above that of each nonterminal that may stand first in it.
pub record Grammar : Type 1 where
  pub N : Type 0
  pub V : N → Type 0
  pub T : Type 0
  -- the class of a token, 0 for the end of the text
  pub class : T → ℕ
  -- some token of each class
  pub of_class : ℕ → T
  pub rule : (n : N) → Rule N V T (V n)
  pub least : N → ℕ
  pub begins : N → List ℕ
  pub goes : N → List ℕ
  pub rank : N → ℕ
