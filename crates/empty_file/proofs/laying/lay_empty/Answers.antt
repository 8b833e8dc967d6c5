use Rattle.std.proofs.Common.{◌∙◌, ap}
use Rattle.pst_outside.specs.World.{Image}
use Rattle.pst_outside.proofs.Moments.{stays_settled}
use Rattle.empty_file.proofs.Outcomes.{found-none, never-fall, no-bytes, vacant-before}
use Rattle.empty_file.proofs.laying.lay_empty.Goals as goal

pub returns-clause-laid : goal.returns-clause-laid
returns-clause-laid g c = λ t. found-none _ _ c.in_ok-found.ensures.known (c.in_ok-put_parts.ensures.lays t)

pub returns-clause-empty : goal.returns-clause-empty
returns-clause-empty g c = vacant-before c.check_vacant.ensures.same c.in_ok-check_vacant.ensures.vacant

pub returns-clause-kept : goal.returns-clause-kept
returns-clause-kept g c = λ told bytes. absurd (no-bytes _ (vacant-before c.check_vacant.ensures.same c.in_ok-check_vacant.ensures.vacant told) bytes)

pub returns-clause-settled : goal.returns-clause-settled
returns-clause-settled g c = λ settled. c.in_ok-put_parts.ensures.settled (stays_settled settled c.check_vacant.ensures.same)

pub returns-clause-counts : goal.returns-clause-counts
returns-clause-counts g c = never-fall c.check_vacant.ensures.same.counts c.put_parts.ensures.counts

pub returns-clause-told : goal.returns-clause-told
returns-clause-told g c = λ t. c.check_vacant.ensures.same.stays.told (c.put_parts.ensures.told t)

pub returns-clause-input : goal.returns-clause-input
returns-clause-input g c = λ t. c.put_parts.ensures.input t ∙ c.check_vacant.ensures.same.stays.input (c.put_parts.ensures.told t)

pub returns-clause-copy : goal.returns-clause-copy
returns-clause-copy g c = λ t. c.put_parts.ensures.copy t ∙ ap (λ (i : Image). i.copy) (c.check_vacant.ensures.same.stays.here (c.put_parts.ensures.told t))

pub returns-clause-said : goal.returns-clause-said
returns-clause-said g c = λ t. c.put_parts.ensures.said t ∙ ap (λ (i : Image). i.said) (c.check_vacant.ensures.same.stays.here (c.put_parts.ensures.told t))
