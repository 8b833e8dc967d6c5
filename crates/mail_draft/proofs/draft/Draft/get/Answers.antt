use Rattle.std.proofs.Common.{◌∙◌, sym}
use Rattle.std.specs.Cmp.{nat_cmp_total}
use Rattle.std.specs.FinMap as map
use Rattle.mail_draft.proofs.DraftLaws.{found_is}
use Rattle.mail_draft.proofs.draft.Draft.get.Goals as goal

pub returns : goal.returns
returns c = c.get.ensures.value ∙ found_is c.args.nid.bits c.args.self.now.objects.entries ∙ sym (map.get-from_entries nat_cmp_total c.args.self.now.objects.entries c.args.nid.bits)
