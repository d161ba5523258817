use mathlib.Core.Logic.{inl, inr}
use Rattle.masks.specs.Text.{text_of}
use Rattle.masks.proofs.text.text_length.Goals as goal

pub returns-in-Vanilla : goal.returns-in-Vanilla
unfolding text_of
returns-in-Vanilla c = elim c.in-Vanilla.is [ inl e ↦ rw e | inr e ↦ rw e ]
