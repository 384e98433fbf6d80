-- References to an object.
use Rattle.sqz_image.specs.Objects.{Memory}
use Rattle.sqz_facts.specs.declared.referrers.Referrer.{Referrer}
use Rattle.sqz_answers.specs.declared.references.Reference.{Reference}
use Rattle.sqz_dominators.specs.Weakness.{is_weak_slot}

-- a reference, with whether its slot is weak
abbrev pub reference_of : Memory → Referrer → Reference
reference_of memory referrer = record {
  object = referrer.object;
  slot = referrer.slot;
  is_weak = is_weak_slot memory referrer.object referrer.slot;
}
