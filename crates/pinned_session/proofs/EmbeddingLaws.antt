-- What a line on the message in an attachment comes to, to a session.
use Rattle.std.proofs.Common.{◌≡◌, ◌∙◌, ◌⊎◌, inl, inr, ℕ, List, Result, Ok, Err, ap, refl, subst}
use Rattle.pst_outside.specs.World.{Image, World}
use Rattle.pst_outside.specs.Calls.{Settled, Untouched}
use Rattle.pst_outside.proofs.Moments.{continues}
use Rattle.node_port.specs.Pins.{Pins}
use Rattle.node_port.specs.Stops.{Room}
use Rattle.command_text.specs.Replies.{text}
use Rattle.command_text.specs.declared.command.Command.{Command}
use Rattle.command_text.specs.declared.embedded.EmbeddedCommand.{EmbeddedCommand}
use Rattle.command_text.specs.declared.reply.LastLine.TheVariants.{NoMemory}
use Rattle.command_text.specs.declared.reply.Reply.{Reply}
use Rattle.line_server.specs.Spoken.{no_memory_text, spoken_text}
use Rattle.line_server.specs.declared.spoken.Spoken.{Spoken}
use Rattle.mail_embedding.specs.Meant.{Means}
use Rattle.mail_embedding.specs.declared.meaning.Meaning.{Meaning}
use Rattle.mail_embedding.specs.declared.meaning.Meaning.TheVariants.{Replies, Becomes}
use Rattle.mail_embedding.proofs.Calm.{never_changed}
use Rattle.mail_tree.specs.Folders.{replied}
use Rattle.session_lines.specs.declared.line.SessionLine.TheVariants.{Embedded, Command as StoreCommand}
use Rattle.store_session.specs.Carrying.{CarriesOut, ComesTo, Leaves}
use Rattle.store_session.specs.Disks.{Effects, Medium, SameMedium, medium}
use Rattle.store_session.specs.mail_draft.declared.stop.Stop.{Stop}
use Rattle.store_session.specs.mail_draft.declared.stop.Stop.TheVariants as stops
use Rattle.store_session.specs.declared.carrying.StoreStop.{StoreStop}
use Rattle.store_session.specs.declared.carrying.StoreStop.TheVariants.{Disk, Changed}
use Rattle.store_session.proofs.Carry.{its_medium, memory_text, quiet_leaves}
use Rattle.pinned_session.specs.Run.{SaysTo}
use Rattle.pinned_session.specs.Sitting.{Sitting}
use Rattle.pinned_session.proofs.LineLaws.{meant_on, stays_on}

-- a disk of which all is the same
same_disk_of : (v w : World) → w.here ≡ v.here → w.written ≡ v.written → medium w ≡ medium v
same_disk_of v w here written = ap (λ (i : Image). let m : Medium = record { image = i; written = w.written } in m) here ∙ ap (λ (n : ℕ). let m : Medium = record { image = v.here; written = n } in m) written

module _ (effects : Pins → Effects) (room : Room) (S : Sitting) (has : Sitting → Type 0) (stands : Image → Sitting → Type 0) (line : EmbeddedCommand) (meant : Result Meaning Stop) (means : Means S.now.tree line meant) where
  -- ---- it only asked, or was refused

  module _ (old new : World) (same : new.tells → SameMedium (medium old) (medium new)) (h : has S) (leaves : Leaves stands old new S S) where
    lacking : (spoken : Spoken) → spoken_text spoken ≡ no_memory_text → CarriesOut has stands (SaysTo effects room S (medium old) (Embedded line)) old new S (Ok spoken)
    lacking spoken is = (S, inr (is ∙ memory_text, (refl, same)), h, leaves)

    pub meant_replies : (reply : Reply) → meant ≡ Ok (Replies reply) → (spoken : Spoken) → (spoken_text spoken ≡ text reply) ⊎ (spoken_text spoken ≡ no_memory_text)
        → CarriesOut has stands (SaysTo effects room S (medium old) (Embedded line)) old new S (Ok spoken)
    meant_replies reply is spoken (inl says) = (S, inl (Ok (Replies reply), subst (Means S.now.tree line) is means, (says, (refl, same))), h, leaves)
    meant_replies reply is spoken (inr says) = lacking spoken says

    pub meant_stops : (stop : Stop) → meant ≡ Err stop → (r : Result Spoken StoreStop) → ComesTo stop r → CarriesOut has stands (SaysTo effects room S (medium old) (Embedded line)) old new S r
    meant_stops stop is (Ok spoken) (inl comes) = (S, inl (Err (stops.Refused comes.0), subst (Means S.now.tree line) (is ∙ ap (λ (s : Stop). Err s) comes.1) means, (comes.2, (refl, same))), h, leaves)
    meant_stops stop is (Ok spoken) (inr says) = lacking spoken says
    meant_stops stop is (Err Disk) comes = (S, text (replied NoMemory), inr (refl, (refl, λ none. absurd none)), leaves)
    meant_stops stop is (Err (Changed ib stored computed)) comes = never_changed ib stored computed S.now.tree line (subst (Means S.now.tree line) (is ∙ ap (λ (s : Stop). Err s) comes) means)

  -- ---- it became a command, which was carried out

  module _ {old mid : World} (new : World) (settled : Settled old) (same : Untouched old mid) (here : stands old.here S) (tells : new.tells → mid.tells) (c : Command) (is : meant ≡ Ok (Becomes c)) where
    -- each moment from the start on
    leaves_on : (Z : Sitting) → Leaves stands mid new S Z → Leaves stands old new S Z
    leaves_on Z leaves = continues (quiet_leaves stands S Z settled same here) leaves (λ i told k. (k.0 ∙ ap (λ (j : Image). j.said) (same.stays.here (tells told)), k.1))

    says_on : (told : Type 0) → (told → new.tells) → (said : List ℕ) (Z : Sitting) → SaysTo effects room S (medium mid) (StoreCommand c) told said Z (medium new) → SaysTo effects room S (medium old) (Embedded line) told said Z (medium new)
    says_on told t said Z (inl says) =
        inl (Ok (Becomes c), subst (Means S.now.tree line) is means, meant_on effects room S (λ x. x) (λ x. same_disk_of old mid (same.stays.here (tells (t x))) same.stays.written) (λ x. its_medium new) (Ok (Becomes c)) said Z says)
    says_on told t said Z (inr lacks) =
        inr (lacks.0, stays_on effects room S (λ x. x) (λ x. same_disk_of old mid (same.stays.here (tells (t x))) same.stays.written) (λ x. its_medium new) Z lacks.1)

    pub meant_becomes : (r : Result Spoken StoreStop) → CarriesOut has stands (SaysTo effects room S (medium mid) (StoreCommand c)) mid new S r → CarriesOut has stands (SaysTo effects room S (medium old) (Embedded line)) old new S r
    meant_becomes (Ok spoken) done = (done.0, says_on new.tells (λ t. t) (spoken_text spoken) done.0 done.1, done.2, leaves_on done.0 done.3)
    meant_becomes (Err Disk) done = (done.0, done.1, says_on ⊥ (λ none. absurd none) done.1 done.0 done.2, leaves_on done.0 done.3)
    meant_becomes (Err (Changed ib stored computed)) done = done
