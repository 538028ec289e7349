-- A text's types are of C where they aren't ghost, and so its ghost and concrete code are apart where its atomic blocks store once.
use Rattle.apart_law.specs.Law.{TextsAreOfC, TextsStoringOnceAreApart}
use Rattle.tree_forms.proofs.FormLaw.{form_law}
use Rattle.apart_law.proofs.Apart.{storing_once_is_apart}
use Rattle.apart_law.proofs.TypeRows.{source_of_c}

pub texts_are_of_c : TextsAreOfC
texts_are_of_c bytes items end text = source_of_c text.tokens items text.height text.is

pub texts_storing_once_are_apart : TextsStoringOnceAreApart
texts_storing_once_are_apart bytes items end text once = storing_once_is_apart items end (form_law bytes items end text) once (texts_are_of_c bytes items end text)
