-- Which certificates can be written. Own.
use Rattle.std.specs.Prelude.{◌≤◌, FitsSigned, All}
use Rattle.std.specs.Int.{w128}
use Rattle.terms.specs.declared.term.Term.{Term}
use Rattle.cert_format.specs.Derivations.{Derivation}
use Rattle.cert_format.specs.Text.{literals_of}

-- a lemma or block has no more literals than it may
abbrev pub HasFewLiterals : Derivation → Type 0
HasFewLiterals d = literals_of d.steps ≤ 4194304

-- the term's index fits 128 bits
abbrev pub HasIndex : Term → Type 0
HasIndex t = FitsSigned w128 t.index

-- so do those of a lemma's terms
abbrev pub HaveIndices : Derivation → Type 0
HaveIndices d = All HasIndex d.terms
