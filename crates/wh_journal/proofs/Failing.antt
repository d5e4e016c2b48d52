-- a journal that failed while it was to keep records
use Rattle.std.proofs.Common.{◌≡◌, ◌∙◌, ℕ, true, List, [], ◌++◌, refl}
use Rattle.std.specs.Io.KnownBytes.{Keeps}
use Rattle.std.proofs.KnownBytes.{Appends-kept, Keeps-trans}
use Rattle.wh_lines.specs.Output.{WritesFront}
use Rattle.wh_lines.proofs.Written.{front_all, in_first, in_second}
use Rattle.wh_session.specs.Machines.{Records, joined}
use Rattle.wh_journal.specs.Keeping.{Held, Adds, KeepsFront}

module _ (a b c : Held) (r : Records) (adds : Adds a r b) (same : c.name ≡ b.name) (stays : Keeps b.synced c.synced) (failed : c.failed ≡ true) where
  -- a piece was not appended to its end
  pub piece_failed : (piece : List ℕ) (rest : Records) → WritesFront b.contents c.contents piece → KeepsFront a (joined (joined r (record { log = piece; more = [] })) rest) c
  piece_failed piece rest w = record {
    name_is = same ∙ adds.name_is;
    front = in_first a.contents c.contents (r.log ++ piece) rest.log ((r.log ++ piece) ++ rest.log) refl (in_second a.contents b.contents c.contents r.log piece (r.log ++ piece) refl adds.appends w);
    stays = Keeps-trans a.synced b.synced c.synced adds.stays stays;
    failed = failed;
  }

  -- all was appended, and not synced
  pub sync_failed : Keeps b.contents c.contents → KeepsFront a r c
  sync_failed kept = record {
    name_is = same ∙ adds.name_is;
    front = front_all a.contents c.contents r.log (Appends-kept a.contents b.contents c.contents r.log adds.appends kept);
    stays = Keeps-trans a.synced b.synced c.synced adds.stays stays;
    failed = failed;
  }
