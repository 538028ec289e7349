-- The text of a certificate. Own: words divided by one space make a line, which ends with LF, and lines make the text.
use Rattle.std.specs.Prelude.{◌≡◌, ℕ, suc, ◌<◌, ◌≤◌, ◌^◌, ℤ, pos, Bool, true, false, FitsSigned, IsTrue, List, [], ◌∷◌, ◌++◌, length, map, sum_by, All, codes, decimal, int_lt, ◌==◌, if◌then◌else◌, ⊤, ◌⊎◌}
use Rattle.std.specs.Fmt.{signed_decimal}
use Rattle.std.specs.List.{flat_map, join_with_byte}
use Rattle.std.specs.Int.{w128}
use Rattle.terms.specs.declared.term.Kind.{Kind}
use Rattle.terms.specs.declared.term.Kind.TheVariants as k
use Rattle.terms.specs.declared.term.Literal.{Literal}
use Rattle.terms.specs.declared.term.Term.{Term}
use Rattle.cert_format.specs.Derivations.{Derivation}
use Rattle.cert_format.specs.declared.certificate.Certificate.{Certificate}
use Rattle.cert_format.specs.declared.certificate.RuleName.{RuleName}
use Rattle.cert_format.specs.declared.certificate.RuleName.TheVariants as r
use Rattle.cert_format.specs.declared.certificate.Owner.{Owner}
use Rattle.cert_format.specs.declared.certificate.Owner.TheVariants.{OfLemma, OfCondition}
use Rattle.cert_format.specs.declared.certificate.Step.{Step}

-- ---- words

abbrev pub Word : Type 0
Word = List ℕ

abbrev pub kind_text : Kind → Word
kind_text k.Int = codes "int"
kind_text k.Ci = codes "ci"
kind_text k.Add = codes "add"
kind_text k.Sub = codes "sub"
kind_text k.Mul = codes "mul"
kind_text k.Div = codes "div"
kind_text k.Mod = codes "mod"
kind_text k.Typ = codes "typ"
kind_text k.Get = codes "get"
kind_text k.Ite = codes "ite"
kind_text k.Null = codes "null"
kind_text k.Me = codes "me"
kind_text k.Cr = codes "cr"
kind_text k.Cex = codes "cex"
kind_text k.Ch = codes "ch"
kind_text k.Set = codes "set"
kind_text k.Open = codes "open"
kind_text k.Close = codes "close"
kind_text k.Clear = codes "clear"
kind_text k.True = codes "true"
kind_text k.Not = codes "not"
kind_text k.And = codes "and"
kind_text k.Or = codes "or"
kind_text k.Imp = codes "imp"
kind_text k.Eq = codes "eq"
kind_text k.Le = codes "le"
kind_text k.All = codes "all"
kind_text k.Good = codes "good"
kind_text k.Sys = codes "sys"
kind_text k.Inv = codes "inv"
kind_text k.Legal = codes "legal"
kind_text k.Kept = codes "kept"
kind_text k.Touched = codes "touched"
kind_text k.Rely = codes "rely"
kind_text k.Frame = codes "frame"
kind_text k.Stab = codes "stab"
kind_text k.Idle = codes "idle"

-- whether the kind's name is followed by an index; the index of any other term is 0
abbrev pub has_index : Kind → Bool
has_index k.Int = true
has_index k.Ci = true
has_index k.Cr = true
has_index k.Ch = true
has_index k.Get = true
has_index k.Set = true
has_index k.All = true
has_index k.Cex = true
has_index _ = false

abbrev pub rule_text : RuleName → Word
rule_text r.Root = codes "root"
rule_text r.Conn = codes "conn"
rule_text r.Chain = codes "chain"
rule_text r.Refl = codes "refl"
rule_text r.Sym = codes "sym"
rule_text r.Trans = codes "trans"
rule_text r.Cong = codes "cong"
rule_text r.Linear = codes "linear"
rule_text r.Cut = codes "cut"
rule_text r.Split = codes "split"
rule_text r.Map = codes "map"
rule_text r.Axiom = codes "axiom"
rule_text r.Lemma = codes "lemma"

-- `+` or `-`, and the number of the literal's term
abbrev pub literal_text : Literal → Word
literal_text l = (if l.positive then 43 else 45) ∷ decimal l.term

-- ---- lines

-- a line as its words
abbrev pub Line : Type 0
Line = List Word

-- the words, divided by one space, and LF
abbrev pub line_text : Line → List ℕ
line_text words = join_with_byte 32 words ++ 10 ∷ []

-- each word behind a space
abbrev pub words_behind : Line → List ℕ
words_behind = flat_map (λ w. 32 ∷ w)

abbrev pub index_words : Term → Line
index_words t = if has_index t.kind then signed_decimal t.index ∷ [] else []

-- `t KIND NUMBERS`: the index, if the kind has one, stands before the arguments
abbrev pub term_line : Term → Line
term_line t = codes "t" ∷ kind_text t.kind ∷ (index_words t ++ map decimal t.args)

-- `s RULE NUMBERS = LITERALS`
abbrev pub step_line : Step → Line
step_line s = codes "s" ∷ rule_text s.rule ∷ (map signed_decimal s.numbers ++ codes "=" ∷ map literal_text s.clause)

-- how many literals the steps have
abbrev pub literals_of : List Step → ℕ
literals_of = sum_by (λ s. length s.clause)

abbrev pub count_line : Word → ℕ → Line
count_line name n = name ∷ decimal n ∷ []

-- `lemma T S L` or `condition T S L`: how many terms, steps and literals follow
abbrev pub head_line : Word → ℕ → ℕ → ℕ → Line
head_line name terms steps literals = name ∷ decimal terms ∷ decimal steps ∷ decimal literals ∷ []

-- the first line of it
abbrev pub head_of : Word → Derivation → Line
head_of name d = head_line name (length d.terms) (length d.steps) (literals_of d.steps)

abbrev pub owner_text : Owner → Word
owner_text (OfLemma _) = codes "lemma"
owner_text (OfCondition _) = codes "condition"

-- the lines of a lemma, or of a condition's block
abbrev pub derivation_lines : Word → Derivation → List Line
derivation_lines name d = head_of name d ∷ (map term_line d.terms ++ map step_line d.steps)

-- ---- certificates

-- a certificate's version, its lemmas, and a block for each condition
pub record Proofs : Type 0 where
  pub version : ℕ
  pub lemmas : List Derivation
  pub blocks : List Derivation

-- a certificate as code holds it
abbrev pub seen : Certificate → Proofs
seen c = record { version = c.version; lemmas = c.lemmas.items; blocks = c.blocks.items }

-- the first lines: version 2 has lemmas, and counts them
abbrev pub first_lines : ℕ → ℕ → List Line
first_lines version lemmas = count_line (codes "vcc-cert") version ∷ (if version == 2 then count_line (codes "lemmas") lemmas ∷ [] else [])

abbrev pub lemma_lines : List Derivation → List Line
lemma_lines = flat_map (derivation_lines (codes "lemma"))

abbrev pub block_lines : List Derivation → List Line
block_lines = flat_map (derivation_lines (codes "condition"))

abbrev pub lines_of : Proofs → List Line
lines_of c = first_lines c.version (length c.lemmas) ++ lemma_lines c.lemmas ++ count_line (codes "conditions") (length c.blocks) ∷ block_lines c.blocks ++ (codes "end" ∷ []) ∷ []

abbrev pub text_of : List Line → List ℕ
text_of = flat_map line_text

abbrev pub lemma_text : Derivation → List ℕ
lemma_text d = text_of (derivation_lines (codes "lemma") d)

abbrev pub block_text : Derivation → List ℕ
block_text d = text_of (derivation_lines (codes "condition") d)

-- ---- which of them are certificates

-- numbers end at 128 bits signed, and terms' numbers at 32 bits
pub record IsTerm (t : Term) : Type 0 where
  pub index : FitsSigned w128 t.index
  pub plain : has_index t.kind ≡ false → t.index ≡ pos 0
  pub args : All (λ a. a < 2 ^ 32) t.args

-- `root` stands in no lemma, and `lemma` in version 2 alone
abbrev pub is_rule_of : Owner → RuleName → Bool
is_rule_of (OfLemma _) r.Root = false
is_rule_of (OfCondition version) r.Lemma = version == 2
is_rule_of _ _ = true

-- the first of the numbers, where there is one, is below n
abbrev pub FirstIsBelow : ℕ → List ℤ → Type 0
FirstIsBelow n [] = ⊤
FirstIsBelow n (j ∷ _) = IsTrue (int_lt j (pos n))

-- a lemma cites earlier lemmas alone
abbrev pub CitesEarlier : Owner → RuleName → List ℤ → Type 0
CitesEarlier (OfLemma n) r.Lemma numbers = FirstIsBelow n numbers
CitesEarlier _ _ numbers = ⊤

pub record IsStep (owner : Owner) (s : Step) : Type 0 where
  pub rule : IsTrue (is_rule_of owner s.rule)
  pub cites : CitesEarlier owner s.rule s.numbers
  pub numbers : All (λ n. FitsSigned w128 n) s.numbers
  pub terms : All (λ (l : Literal). l.term < 2 ^ 32) s.clause

-- how many steps there are at least
abbrev pub least_steps : Owner → ℕ
least_steps (OfLemma _) = 1
least_steps (OfCondition _) = 0

-- at most 1,048,576 terms, 1,048,576 steps and 4,194,304 literals
pub record IsDerivation (owner : Owner) (d : Derivation) : Type 0 where
  pub terms : All IsTerm d.terms
  pub steps : All (IsStep owner) d.steps
  pub few_terms : length d.terms ≤ 1048576
  pub some_steps : least_steps owner ≤ length d.steps
  pub few_steps : length d.steps ≤ 1048576
  pub few_literals : literals_of d.steps ≤ 4194304

-- the lemmas, numbered from n on
abbrev pub AreLemmas : ℕ → List Derivation → Type 0
AreLemmas n [] = ⊤
AreLemmas n (d ∷ rest) = IsDerivation (OfLemma n) d × AreLemmas (suc n) rest

-- version 1 has no lemmas
abbrev pub IsVersion : ℕ → List Derivation → Type 0
IsVersion version lemmas = ((version ≡ 1) × (lemmas ≡ [])) ⊎ (version ≡ 2)

-- at most 20,000 lemmas and 20,000 conditions
pub record IsCertificate (c : Proofs) : Type 0 where
  pub version : IsVersion c.version c.lemmas
  pub lemmas : AreLemmas 0 c.lemmas
  pub blocks : All (IsDerivation (OfCondition c.version)) c.blocks
  pub few_lemmas : length c.lemmas ≤ 20000
  pub few_blocks : length c.blocks ≤ 20000

-- the bytes are the text of this certificate
pub record IsCertText (bytes : List ℕ) (c : Proofs) : Type 0 where
  pub spelled : bytes ≡ text_of (lines_of c)
  pub fits : IsCertificate c
