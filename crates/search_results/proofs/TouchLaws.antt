-- What is told of the messages that a command touches.
use Rattle.std.proofs.Common.{◌≡◌, [], ◌∷◌, ◌∙◌, Some, Result, Ok, Err, ap}
use Rattle.std.specs.Global.{Vec}
use Rattle.std.specs.Result.{IsErrAnd}
use Rattle.command_text.specs.declared.command.Command.{Command}
use Rattle.mapi_values.specs.Messages.{Mes}
use Rattle.mail_draft.specs.Desks.{coming_of}
use Rattle.mail_draft.specs.Sight.{Answers, IsAbout, Reads, Sight}
use Rattle.mail_draft.specs.declared.coming.Coming.{Coming}
use Rattle.mail_draft.specs.declared.stop.Stop.{Stop}
use Rattle.mail_searches.specs.Relisting.{Touch}
use Rattle.mail_searches.specs.Touching.{touch_at}
use Rattle.mail_tree.specs.Changing.{as_message, message_at, nothing}
use Rattle.mail_tree.specs.Tree.{object_at}
use Rattle.pst_base.specs.declared.ids.Nid.{Nid}
use Rattle.search_results.proofs.FormLaws.{by_form, from_along}
use Rattle.search_results.proofs.JoinLaws.{stopped}
use Rattle.search_results.proofs.StoodLaws.{stood_form, was_message, was_stop}
use Rattle.search_results.specs.Forms.{form_of}
use Rattle.search_results.specs.Moving.{carried_along}
use Rattle.search_results.specs.Touched.{TouchedBy, Touches, touch_after}
use Rattle.search_results.specs.declared.forms.TouchForm.{TouchForm}
use Rattle.search_results.specs.declared.forms.TouchForm.TheVariants as forms

-- what a form touches is what a command of that form touches
pub touches_all : {A : Type 0} {desk : Sight A} {form : TouchForm} {command : Command} {coming : Coming} {result : Result (Vec Touch) Stop} → form ≡ form_of command
    → Touches desk form coming result → TouchedBy desk command coming result
touches_all {form = form} {command = command} {result = result} same h = record {
  says = λ T s comes. by_form (λ ts. ts.items) T command _ form result same (h.says T s (stood_form T command _ form comes same));
}

-- what moves along with a folder
pub touches_along : {A : Type 0} {desk : Sight A} {folder parent : Nid} {coming : Coming} {result : Result (Vec Touch) Stop}
    → Answers desk (λ (ts : Vec Touch). ts.items) (λ T D. carried_along T folder.bits parent.bits) result → Touches desk (forms.Within folder parent) coming result
touches_along {desk = desk} {folder = folder} {parent = parent} {coming = coming} {result = result} h = record {
  says = λ T s stood. from_along (λ ts. ts.items) T folder parent (coming_of T desk.changed coming) result (h.says T s);
}

-- a message that stood there and was read
pub touches_message : {A : Type 0} {desk mid : Sight A} {M : Mes} {t : Touch} {touches : Vec Touch} (nid : Nid) (coming : Coming) → Answers desk (λ (m : Mes). m) (λ T D. message_at T nothing nid.bits) (Ok M)
    → Reads {R = Mes} desk mid (Ok M) → IsAbout mid (λ T. as_message (object_at T nid.bits) ≡ Some M → t ≡ touch_after T mid.changed nid.bits) → touches.items ≡ t ∷ [] → Touches desk (forms.Message nid) coming (Ok touches)
touches_message {M = M} nid coming read reads told items = record {
  says = λ T s stood. items ∙ ap (λ x. x ∷ []) (told T (reads.shows T s) (was_message T nid.bits M stood (read.says T s)) ∙ ap (λ D. touch_after T D nid.bits) reads.changed);
}

-- and one that couldn't be read
pub message_stops : {A : Type 0} {desk : Sight A} {stop : Stop} {result : Result (Vec Touch) Stop} (nid : Nid) (coming : Coming) → Answers {Y = Mes} desk (λ m. m) (λ T D. message_at T nothing nid.bits) (Err stop)
    → IsErrAnd result (λ e. e ≡ stop) → Touches desk (forms.Message nid) coming result
message_stops {desk = desk} {stop = stop} {result = result} nid coming read is = record {
  says = λ T s stood. stopped (λ ts. ts.items) (Ok (touch_at T (coming_of T desk.changed coming) nid.bits ∷ [])) stop result is (was_stop T nid.bits stop stood (read.says T s));
}
