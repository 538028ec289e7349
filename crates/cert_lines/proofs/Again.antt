-- What a line says is read of it.
use Rattle.std.proofs.Common.{◌≡◌, ℕ, zero, suc, ◌≤◌, ◌<◌, ◌^◌, ℤ, pos, Bool, true, false, cond, ◌||◌, eqb, List, [], ◌∷◌, ◌++◌, length, map, codes, All, bytes_eq, Some, None, Ok, nat_lt, arith, refl, sym, ap, ◌∙◌, inl, inr}
use Rattle.std.specs.Prelude.{decimal, FitsSigned, IsTrue, ◌⊎◌}
use Rattle.std.specs.Int.{w128}
use Rattle.std.specs.Fmt.{signed_decimal}
use Rattle.std.proofs.lemmas.Fmt.{decimal_digit}
use Rattle.std.proofs.lemmas.Bool.{le-leb, lt-ltb, cases_Bool}
use Rattle.std.proofs.lemmas.List.Elements.{All-head, All-tail}
use Rattle.std.proofs.lemmas.Slice.Eq.{bytes_eq-Decides}
use Rattle.terms.specs.declared.term.Kind.{Kind}
use Rattle.terms.specs.declared.term.Kind.TheVariants as k
use Rattle.terms.specs.declared.term.Literal.{Literal}
use Rattle.terms.specs.declared.term.Term.{Term}
use Rattle.cert_format.specs.declared.certificate.RuleName.{RuleName}
use Rattle.cert_format.specs.declared.certificate.RuleName.TheVariants as r
use Rattle.cert_format.specs.declared.certificate.Owner.{Owner}
use Rattle.cert_format.specs.declared.certificate.Owner.TheVariants.{OfLemma}
use Rattle.cert_format.specs.declared.certificate.Step.{Step}
use Rattle.cert_format.specs.declared.stage.Counts.{Counts}
use Rattle.cert_lines.specs.Numerals.{natural_at, number_at, number_in}
use Rattle.cert_format.specs.Text as text
use Rattle.cert_format.specs.Text.{Word, Line, kind_text, has_index, rule_text, literal_text, is_rule_of, least_steps, owner_text, CitesEarlier, IsTerm, IsStep}
use Rattle.cert_lines.specs.Grammar.{keyword, number, counted, count, kind_in, rule_in, kind, rule, index, arguments, numbers, literals, is_earlier, cites_earlier, version_in, version_line, count_line, head_line, term_line, step_line, end_line}
use Rattle.cert_lines.proofs.Parts.{number_in_again, argument_in_again, literal_in_again}
use Rattle.cert_lines.proofs.Taken.{IsHead}

itself : (w : Word) → bytes_eq w w ≡ true
itself w = (bytes_eq-Decides w w).1 refl

pub keyword_again : (word : Word) (rest : Line) → keyword word (word ∷ rest) ≡ Ok rest
unfolding keyword
keyword_again word rest = rw (itself word) refl

pub number_again : (z : ℤ) (rest : Line) → FitsSigned w128 z → number (signed_decimal z ∷ rest) ≡ Ok (z, rest)
unfolding number
number_again z rest fits = rw (number_in_again z fits) refl

counted_again : (most n : ℕ) → n ≤ most → counted most (pos n) ≡ Ok n
counted_again most n le = rw (le-leb n most le) refl

pub count_again : (most n : ℕ) (rest : Line) → most < 2 ^ 32 → n ≤ most → count most (decimal n ∷ rest) ≡ Ok (n, rest)
unfolding count
count_again most n rest small le =
    let read : number (decimal n ∷ rest) ≡ Ok (pos n, rest) = number_again (pos n) rest (record { sfits = omega arith }) in
    rw (read, counted_again most n le) refl

kind_found : (x : Kind) → kind_in (kind_text x) ≡ Some x
kind_found k.Int = refl
kind_found k.Ci = refl
kind_found k.Add = refl
kind_found k.Sub = refl
kind_found k.Mul = refl
kind_found k.Div = refl
kind_found k.Mod = refl
kind_found k.Typ = refl
kind_found k.Get = refl
kind_found k.Ite = refl
kind_found k.Null = refl
kind_found k.Me = refl
kind_found k.Cr = refl
kind_found k.Cex = refl
kind_found k.Ch = refl
kind_found k.Set = refl
kind_found k.Open = refl
kind_found k.Close = refl
kind_found k.Clear = refl
kind_found k.True = refl
kind_found k.Not = refl
kind_found k.And = refl
kind_found k.Or = refl
kind_found k.Imp = refl
kind_found k.Eq = refl
kind_found k.Le = refl
kind_found k.All = refl
kind_found k.Good = refl
kind_found k.Sys = refl
kind_found k.Inv = refl
kind_found k.Legal = refl
kind_found k.Kept = refl
kind_found k.Touched = refl
kind_found k.Rely = refl
kind_found k.Frame = refl
kind_found k.Stab = refl
kind_found k.Idle = refl

rule_found : (x : RuleName) → rule_in (rule_text x) ≡ Some x
rule_found r.Root = refl
rule_found r.Conn = refl
rule_found r.Chain = refl
rule_found r.Refl = refl
rule_found r.Sym = refl
rule_found r.Trans = refl
rule_found r.Cong = refl
rule_found r.Linear = refl
rule_found r.Cut = refl
rule_found r.Split = refl
rule_found r.Map = refl
rule_found r.Axiom = refl
rule_found r.Lemma = refl

pub kind_again : (x : Kind) (rest : Line) → kind (kind_text x ∷ rest) ≡ Ok (x, rest)
unfolding kind
kind_again x rest = rw (kind_found x) refl

pub rule_again : (owner : Owner) (x : RuleName) (rest : Line) → IsTrue (is_rule_of owner x) → rule owner (rule_text x ∷ rest) ≡ Ok (x, rest)
unfolding rule
rule_again owner x rest allowed = rw (rule_found x, allowed) refl

abbrev indexed : Bool → ℤ → Line
indexed has z = cond has (signed_decimal z ∷ []) []

index_by : (has : Bool) (z : ℤ) (rest : Line) → FitsSigned w128 z → (has ≡ false → z ≡ pos 0) → cond has (number (indexed has z ++ rest)) (Ok (pos 0, indexed has z ++ rest)) ≡ Ok (z, rest)
index_by true z rest fits plain = number_again z rest fits
index_by false z rest fits plain = ap (λ (y : ℤ). Ok (y, rest)) (sym (plain refl))

pub index_again : (x : Kind) (z : ℤ) (rest : Line) → FitsSigned w128 z → (has_index x ≡ false → z ≡ pos 0) → index x (indexed (has_index x) z ++ rest) ≡ Ok (z, rest)
unfolding index
index_again x z rest fits plain = index_by (has_index x) z rest fits plain

pub arguments_again : (args : List ℕ) → All (λ a. a < 2 ^ 32) args → arguments (map decimal args) ≡ Ok args
unfolding arguments
arguments_again [] small = refl
arguments_again (a ∷ args) small = rw (argument_in_again a (All-head (λ x. x < 2 ^ 32) a args small), arguments_again args (All-tail (λ x. x < 2 ^ 32) a args small)) refl

sign_is_none : number_in (codes "=") ≡ None
unfolding number_in number_at natural_at
sign_is_none = refl

no_sign : (n : ℤ) → FitsSigned w128 n → bytes_eq (signed_decimal n) (codes "=") ≡ false
no_sign n fits =
    elim (cases_Bool (bytes_eq (signed_decimal n) (codes "="))) [
      | inl is ↦ absurd (let same : number_in (signed_decimal n) ≡ None = ap number_in ((bytes_eq-Decides (signed_decimal n) (codes "=")).0 is) ∙ sign_is_none in let there = number_in_again n fits in cc)
      | inr other ↦ other
    ]

pub numbers_again : (ns : List ℤ) (rest : Line) → All (λ n. FitsSigned w128 n) ns → numbers (map signed_decimal ns ++ codes "=" ∷ rest) ≡ Ok (ns, rest)
unfolding numbers
numbers_again [] rest fits = refl
numbers_again (n ∷ ns) rest fits =
    let here = All-head (λ x. FitsSigned w128 x) n ns fits in
    rw (no_sign n here, number_in_again n here, numbers_again ns rest (All-tail (λ x. FitsSigned w128 x) n ns fits)) refl

pub literals_again : (left : ℕ) (ls : List Literal) → All (λ (l : Literal). l.term < 2 ^ 32) ls → length ls ≤ left → literals left (map literal_text ls) ≡ Ok ls
unfolding literals
literals_again left [] small few = refl
literals_again zero (l ∷ ls) small few = absurd (omega arith)
literals_again (suc left) (l ∷ ls) small few =
    rw (literal_in_again l (All-head (λ (x : Literal). x.term < 2 ^ 32) l ls small), literals_again left ls (All-tail (λ (x : Literal). x.term < 2 ^ 32) l ls small) (omega arith)) refl

-- ---- lines

version_found : (v : ℕ) → (v ≡ 1) ⊎ (v ≡ 2) → version_in (decimal v) ≡ Some v
version_found v (inl one) = rw (one, decimal_digit 1 (omega arith)) refl
version_found v (inr two) = rw (two, decimal_digit 2 (omega arith)) refl

pub version_again : (v : ℕ) → (v ≡ 1) ⊎ (v ≡ 2) → version_line (text.count_line (codes "vcc-cert") v) ≡ Ok v
unfolding version_line
version_again v is = rw (keyword_again (codes "vcc-cert") (decimal v ∷ []), version_found v is) refl

pub count_line_again : (name : Word) (n : ℕ) → n ≤ 20000 → count_line name (text.count_line name n) ≡ Ok n
unfolding count_line
count_line_again name n few = rw (keyword_again name (decimal n ∷ []), count_again 20000 n [] (omega arith) few) refl

pub end_again : end_line (codes "end" ∷ []) ≡ Ok tt
unfolding end_line
end_again = rw (keyword_again (codes "end") []) refl

some_or_none : (steps least : ℕ) → (steps ≡ 0 → least ≡ 0) → (nat_lt 0 steps || eqb least 0) ≡ true
some_or_none zero least none = rw (none refl) refl
some_or_none (suc steps) least none = rw (lt-ltb 0 (suc steps) (omega arith)) refl

pub head_again : (owner : Owner) (c : Counts) → IsHead owner c → head_line owner (text.head_line (owner_text owner) c.terms c.steps c.literals) ≡ Ok c
unfolding head_line
head_again owner c h =
    let few_terms = h.few_terms in
    let few_steps = h.few_steps in
    let few_literals = h.few_literals in
    rw (keyword_again (owner_text owner) (decimal c.terms ∷ decimal c.steps ∷ decimal c.literals ∷ []), count_again 1048576 c.terms (decimal c.steps ∷ decimal c.literals ∷ []) (omega arith) few_terms, count_again 1048576 c.steps (decimal c.literals ∷ []) (omega arith) few_steps, le-leb (least_steps owner) c.steps h.some_steps, count_again 4194304 c.literals [] (omega arith) few_literals, some_or_none c.steps c.literals h.none) refl

pub term_again : (t : Term) → IsTerm t → term_line (text.term_line t) ≡ Ok t
unfolding term_line
term_again t fits =
    rw (keyword_again (codes "t") (kind_text t.kind ∷ (indexed (has_index t.kind) t.index ++ map decimal t.args)), kind_again t.kind (indexed (has_index t.kind) t.index ++ map decimal t.args), index_again t.kind t.index (map decimal t.args) fits.index fits.plain, arguments_again t.args fits.args) refl

earlier_again : (owner : Owner) (name : RuleName) (ns : List ℤ) (rest : Line) → All (λ n. FitsSigned w128 n) ns → CitesEarlier owner name ns → cites_earlier owner name (map signed_decimal ns ++ codes "=" ∷ rest) ≡ true
earlier_again (OfLemma own) r.Lemma [] rest fits h = ap (is_earlier own) sign_is_none
earlier_again (OfLemma own) r.Lemma (j ∷ ns) rest fits h = ap (is_earlier own) (number_in_again j (All-head (λ n. FitsSigned w128 n) j ns fits)) ∙ h
earlier_again _ _ ns rest fits h = refl

pub step_again : (owner : Owner) (left : ℕ) (s : Step) → IsStep owner s → length s.clause ≤ left → step_line owner left (text.step_line s) ≡ Ok s
unfolding step_line
step_again owner left s fits few =
    rw (keyword_again (codes "s") (rule_text s.rule ∷ (map signed_decimal s.numbers ++ codes "=" ∷ map literal_text s.clause)), rule_again owner s.rule (map signed_decimal s.numbers ++ codes "=" ∷ map literal_text s.clause) fits.rule, earlier_again owner s.rule s.numbers (map literal_text s.clause) fits.numbers fits.cites, numbers_again s.numbers (map literal_text s.clause) fits.numbers, literals_again left s.clause fits.terms few) refl
