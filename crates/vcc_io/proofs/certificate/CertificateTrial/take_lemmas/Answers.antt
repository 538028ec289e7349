use Rattle.std.proofs.Common.{ap, ◌∙◌, refl}
use Rattle.cert_reader.specs.Keeping.{Scan}
use Rattle.vcc_io.proofs.Sessions.{fewer, lemma_kept, lemmas_kept, no_lemma_left}
use Rattle.vcc_io.proofs.certificate.CertificateTrial.take_lemmas.Goals as goal

pub lemmas-preserved : goal.lemmas-preserved
lemmas-preserved c = record {
  taken = λ t bytes before. lemma_kept t bytes c.lemmas.self _ c.next_lemma.new.self c.in-Some.lemma c.next_lemma.ensures.kept c.in-Some.ensures.lemma refl c.in_ok-push.ensures.items refl refl (c.lemmas.invariant.taken t bytes before);
  bytes = ap (λ (s : Scan). s.bytes) c.next_lemma.ensures.kept ∙ c.lemmas.invariant.bytes;
}

pub lemmas-smaller : goal.lemmas-smaller
lemmas-smaller c = fewer _ _ c.in-Some.lemma c.in-Some.ensures.lemma

pub returns-clause-taken : goal.returns-clause-taken
returns-clause-taken c = λ t bytes before. lemmas_kept t bytes c.lemmas.self c.next_lemma.new.self c.next_lemma.ensures.kept c.in_default.ensures.lemma (c.lemmas.invariant.taken t bytes before)

pub returns-clause-none : goal.returns-clause-none
returns-clause-none c = no_lemma_left c.lemmas.self c.next_lemma.new.self c.next_lemma.ensures.kept c.in_default.ensures.lemma
