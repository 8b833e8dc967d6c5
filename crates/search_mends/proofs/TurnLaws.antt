-- A criteria object that is turned into one of the second version, step by step.
use Rattle.std.proofs.Common.{◌≡◌, ◌∙◌, ℕ, Bool, true, Option, None, Some, Result, Ok, Err, ap, inl, inr, refl, subst, sym}
use Rattle.std.proofs.lemmas.Bool.{cases_Bool}
use Rattle.std.specs.Result.{OnOk}
use Rattle.search_obj.specs.Changing.{migrated}
use Rattle.search_obj.specs.Crits.{Crit, CritSet}
use Rattle.search_obj.specs.Objects as object
use Rattle.search_obj.specs.Writing.{written}
use Rattle.mail_objects.specs.Forms.{Ctx}
use Rattle.command_text.specs.declared.reply.CommandRefusal.{CommandRefusal}
use Rattle.command_text.specs.declared.reply.CommandRefusal.TheVariants.{Criteria}
use Rattle.mail_tree.specs.Changing.{Changed, nothing}
use Rattle.mail_tree.specs.Settling.{with_context}
use Rattle.store_session.specs.mail_draft.Answers.{IsNoMatter, IsRefusal, Says}
use Rattle.store_session.specs.mail_draft.Sight.{Changes, Sight}
use Rattle.store_session.specs.mail_draft.declared.stop.Stop.{Stop}
use Rattle.store_session.specs.mail_draft.declared.stop.Stop.TheVariants.{Refused, Fault, Changed as ChangedThere, Memory}
use Rattle.mail_searches.proofs.HoldLaws.{written_holds}
use Rattle.mail_searches.specs.Searches.{criteria_node}
use Rattle.search_mending.specs.Mending.{can_hold_any, is_first, turned}

-- what was written can be held
holds : (k : Crit) (c : Ctx) → object.Says (written k c.props) k → can_hold_any k.set ≡ true
holds k c says = by-set k.set refl
  where
    by-set : (set : Option CritSet) → k.set ≡ set → can_hold_any set ≡ true
    by-set None e = refl
    by-set (Some set) e = written_holds k set c.props e says

-- what is no matter of the tree refuses nothing else
no_matter : (refusal : CommandRefusal) (stop : Stop) → IsNoMatter stop → IsRefusal refusal stop
no_matter refusal (Refused given) calm = absurd calm
no_matter refusal Fault calm = tt
no_matter refusal (ChangedThere ib stored computed) calm = absurd calm
no_matter refusal Memory calm = tt

-- it is turned
pub turned_now : {A R : Type 0} {old new : Sight A} (f : ℕ) (c : Ctx) (k n : Crit) (first : Bool) (result : Result R Stop) → first ≡ is_first k.version → first ≡ true → n ≡ migrated k → old.changed ≡ nothing
    → OnOk result (object.Says (written n c.props) n) → Changes old new (λ T D. Ok (with_context (criteria_node f) c (written n c.props) D)) result → Changes old new (λ T D. turned f c k) result
unfolding turned
turned_now {R = R} {old = old} {new = new} f c k n first result is so made fresh says changes = record { says = λ T s. said result says (changes.says T s) }
  where
    said : (r : Result R Stop) → OnOk r (object.Says (written n c.props) n) → Says (λ w. new.changed) (Ok (with_context (criteria_node f) c (written n c.props) old.changed)) r → Says (λ w. new.changed) (turned f c k) r
    said (Ok w) says same =
        let version : is_first k.version ≡ true = sym is ∙ so in
        let fits : can_hold_any k.set ≡ true = holds (migrated k) c (subst (λ x. object.Says (written x c.props) x) made says) in
        rw (version, fits) (same ∙ ap (λ (D : Changed). with_context (criteria_node f) c (written n c.props) D) fresh ∙ ap (λ x. with_context (criteria_node f) c (written x c.props) nothing) made)
    said (Err stop) says calm =
        let version : is_first k.version ≡ true = sym is ∙ so in
        elim (cases_Bool (can_hold_any k.set)) [
          | inl fits ↦ rw (version, fits) calm
          | inr not_fits ↦ rw (version, not_fits) (no_matter Criteria stop calm)
        ]
