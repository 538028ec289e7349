-- Findings of conditions, put together, and where there are none.
use Rattle.std.proofs.Common.{◌≡◌, ℕ, suc, ◌+◌, ◌≤◌, List, [], ◌∷◌, ◌++◌, length, map, flat_map, true, ◌&&◌, Some, None, All, refl, sym, ap, ◌∙◌, subst, arith}
use Rattle.std.proofs.lemmas.List.{map-append}
use Rattle.std.proofs.lemmas.List.Elements.{All-nil, All-cons}
use Rattle.method.specs.declared.program.Item.{Item}
use Rattle.method.specs.declared.program.Program.{Program}
use Rattle.method.specs.Labels.{Label, ProgramLabel, numbered, item_labels, program_labels}
use Rattle.terms.specs.Formula.{Formula}
use Rattle.term_meaning.specs.Meaning.{Language}
use Rattle.conditions.specs.Conditions.{formulas, item_conditions, label_formulas}
use Rattle.condition_walks.proofs.LabelSizes.{item_size, one_condition_per_label}
use Rattle.condition_meaning.specs.Languages.{language_of}
use Rattle.cert_format.specs.Derivations.{Derivation}
use Rattle.cert_format.specs.Text.{IsDerivation, IsTerm, IsStep}
use Rattle.cert_format.specs.declared.certificate.Owner.TheVariants.{OfCondition}
use Rattle.refutation_check.specs.Follows.{Follows}
use Rattle.vcc_judge.specs.Verdicts.{AllFollow, IsVerified}
use Rattle.vcc_search.specs.Searches.{Finding, Finds, AllFind, ItemsFind, all_have_blocks, each_has_blocks}
use Rattle.vcc_verify.specs.Texts.{empty_block, block_of, blocks_of}
use Rattle.vcc_search.specs.Reports.{first_open, labels_in}

-- ---- nothing

abbrev pub nothing : List Formula → List Finding
nothing [] = []
nothing (f ∷ fs) = None ∷ nothing fs

pub nothing_finds : (l : Language) (fs : List Formula) → AllFind l fs (nothing fs)
nothing_finds l [] = tt
nothing_finds l (f ∷ fs) = (tt, nothing_finds l fs)

abbrev pub nothing_in : Program → List Item → List (List Finding)
nothing_in p [] = []
nothing_in p (i ∷ is) = nothing (item_conditions p i) ∷ nothing_in p is

pub nothing_finds_in : (p : Program) (is : List Item) → ItemsFind p is (nothing_in p is)
nothing_finds_in p [] = tt
nothing_finds_in p (i ∷ is) = (nothing_finds (language_of p) (item_conditions p i), nothing_finds_in p is)

-- ---- how many

pub find_long : (l : Language) (fs : List Formula) (os : List Finding) → AllFind l fs os → length os ≡ length fs
find_long l [] [] h = refl
find_long l [] (o ∷ os) h = absurd h
find_long l (f ∷ fs) [] h = absurd h
find_long l (f ∷ fs) (o ∷ os) h = ap suc (find_long l fs os h.1)

pub blocks_long : (os : List Finding) → length (map block_of os) ≡ length os
blocks_long [] = refl
blocks_long (o ∷ os) = ap suc (blocks_long os)

pub numbered_long : (i : Item) (n : ℕ) (ls : List Label) → length (numbered i n ls) ≡ length ls
numbered_long i n [] = refl
numbered_long i n (l ∷ ls) = ap suc (numbered_long i (n + 1) ls)

-- an item has as many labels as conditions
pub labels_long : (p : Program) (i : Item) → length (labels_in p i) ≡ length (item_conditions p i)
labels_long p i = numbered_long i 1 (item_labels p i) ∙ sym (item_size p i)

-- ---- labels

pub none_open : (ls : List ProgramLabel) → first_open ls [] ≡ None
none_open [] = refl
none_open (l ∷ ls) = refl

-- labels behind those of the findings are no matter
pub open_front : (ls more : List ProgramLabel) (os : List Finding) → length os ≤ length ls → first_open (ls ++ more) os ≡ first_open ls os
open_front [] more [] long = none_open more
open_front [] more (o ∷ os) long = absurd (omega (arith, long))
open_front (l ∷ ls) more [] long = refl
open_front (l ∷ ls) more (None ∷ os) long = refl
open_front (l ∷ ls) more (Some b ∷ os) long = open_front ls more os (omega (arith, long))

-- ---- all findings of a program

module _ (l : Language) where
  pub find_both : (fs gs : List Formula) (os us : List Finding) → AllFind l fs os → AllFind l gs us → AllFind l (fs ++ gs) (os ++ us)
  find_both [] gs [] us a b = b
  find_both [] gs (o ∷ os) us a b = absurd a
  find_both (f ∷ fs) gs [] us a b = absurd a
  find_both (f ∷ fs) gs (o ∷ os) us a b = (a.0, find_both fs gs os us a.1 b)

  empty_fits : IsDerivation (OfCondition 1) empty_block
  empty_fits = record {
    terms = All-nil IsTerm;
    steps = All-nil (IsStep (OfCondition 1));
    few_terms = omega arith;
    some_steps = omega arith;
    few_steps = omega arith;
    few_literals = omega arith;
  }

  block_fits : (f : Formula) (o : Finding) → Finds l f o → IsDerivation (OfCondition 1) (block_of o)
  block_fits f None h = empty_fits
  block_fits f (Some b) h = h.1

  -- the blocks can stand in a certificate
  pub blocks_fit : (fs : List Formula) (os : List Finding) → AllFind l fs os → All (IsDerivation (OfCondition 1)) (map block_of os)
  blocks_fit [] [] h = All-nil (IsDerivation (OfCondition 1))
  blocks_fit [] (o ∷ os) h = absurd h
  blocks_fit (f ∷ fs) [] h = absurd h
  blocks_fit (f ∷ fs) (o ∷ os) h = All-cons (IsDerivation (OfCondition 1)) (block_of o) (map block_of os) (block_fits f o h.0) (blocks_fit fs os h.1)

  -- no condition follows by an empty block
  empty_never : (f : Formula) → Follows l [] f empty_block → ⊥
  empty_never f follows =
      let none : length follows.refutes.laid.clauses ≡ 0 = ap length follows.refutes.front.layout.clauses in
      let some : length follows.refutes.laid.clauses ≡ follows.refutes.last.0 + 1 = follows.refutes.last.2 in
      omega (arith, none, some)

  pub blocks_follow : (ls : List ProgramLabel) (fs : List Formula) (os : List Finding) → length ls ≡ length fs → AllFind l fs os → all_have_blocks os ≡ true → AllFollow l [] (label_formulas ls fs) (map block_of os)
  blocks_follow [] [] [] long h all = tt
  blocks_follow [] [] (o ∷ os) long h all = absurd h
  blocks_follow [] (f ∷ fs) os long h all = absurd (omega (arith, long))
  blocks_follow (x ∷ ls) [] os long h all = absurd (omega (arith, long))
  blocks_follow (x ∷ ls) (f ∷ fs) [] long h all = absurd h
  blocks_follow (x ∷ ls) (f ∷ fs) (None ∷ os) long h all = absurd (cc all)
  blocks_follow (x ∷ ls) (f ∷ fs) (Some b ∷ os) long h all = (h.0.0, blocks_follow ls fs os (omega (arith, long)) h.1 all)

  pub follow_blocks : (ls : List ProgramLabel) (fs : List Formula) (os : List Finding) → length ls ≡ length fs → AllFind l fs os → AllFollow l [] (label_formulas ls fs) (map block_of os) → all_have_blocks os ≡ true
  follow_blocks [] [] [] long h all = refl
  follow_blocks [] [] (o ∷ os) long h all = absurd h
  follow_blocks [] (f ∷ fs) os long h all = absurd (omega (arith, long))
  follow_blocks (x ∷ ls) [] os long h all = absurd (omega (arith, long))
  follow_blocks (x ∷ ls) (f ∷ fs) [] long h all = absurd h
  follow_blocks (x ∷ ls) (f ∷ fs) (None ∷ os) long h all = absurd (empty_never f all.0)
  follow_blocks (x ∷ ls) (f ∷ fs) (Some b ∷ os) long h all = follow_blocks ls fs os (omega (arith, long)) h.1 all.1

abbrev pub together : List (List Finding) → List Finding
together gs = flat_map (λ g. g) gs

pub items_find : (p : Program) (is : List Item) (gs : List (List Finding)) → ItemsFind p is gs → AllFind (language_of p) (flat_map (item_conditions p) is) (together gs)
items_find p [] [] h = tt
items_find p [] (g ∷ gs) h = absurd h
items_find p (i ∷ is) [] h = absurd h
items_find p (i ∷ is) (g ∷ gs) h = find_both (language_of p) (item_conditions p i) (flat_map (item_conditions p) is) g (together gs) h.0 (items_find p is gs h.1)

pub blocks_together : (gs : List (List Finding)) → blocks_of gs ≡ map block_of (together gs)
blocks_together [] = refl
blocks_together (g ∷ gs) = ap (λ (bs : List Derivation). map block_of g ++ bs) (blocks_together gs) ∙ sym (map-append block_of g (together gs))

both_have : (g h : List Finding) → all_have_blocks (g ++ h) ≡ (all_have_blocks g && all_have_blocks h)
both_have [] h = refl
both_have (None ∷ g) h = refl
both_have (Some b ∷ g) h = both_have g h

together_have : (gs : List (List Finding)) → each_has_blocks gs ≡ all_have_blocks (together gs)
together_have [] = refl
together_have (g ∷ gs) = ap (λ b. all_have_blocks g && b) (together_have gs) ∙ sym (both_have g (together gs))

module _ (p : Program) (gs : List (List Finding)) (find : ItemsFind p p.items.items gs) where
  all_find : AllFind (language_of p) (formulas p) (together gs)
  all_find = items_find p p.items.items gs find

  long : length (program_labels p) ≡ length (formulas p)
  long = sym (one_condition_per_label p)

  -- the blocks are as many as the labels
  pub many_blocks : length (blocks_of gs) ≡ length (program_labels p)
  many_blocks = ap length (blocks_together gs) ∙ blocks_long (together gs) ∙ find_long (language_of p) (formulas p) (together gs) all_find ∙ one_condition_per_label p

  pub all_fit : All (IsDerivation (OfCondition 1)) (blocks_of gs)
  all_fit = subst (λ (bs : List Derivation). All (IsDerivation (OfCondition 1)) bs) (sym (blocks_together gs)) (blocks_fit (language_of p) (formulas p) (together gs) all_find)

  -- a block was found for each condition exactly where each follows by its block
  pub blocks_verify : each_has_blocks gs ≡ true → IsVerified p [] (blocks_of gs)
  blocks_verify all =
      subst (λ (bs : List Derivation). IsVerified p [] bs) (sym (blocks_together gs))
      (blocks_follow (language_of p) (program_labels p) (formulas p) (together gs) long all_find (sym (together_have gs) ∙ all))

  pub verify_blocks : IsVerified p [] (blocks_of gs) → each_has_blocks gs ≡ true
  verify_blocks all =
      together_have gs ∙ follow_blocks (language_of p) (program_labels p) (formulas p) (together gs) long all_find
      (subst (λ (bs : List Derivation). IsVerified p [] bs) (blocks_together gs) all)
