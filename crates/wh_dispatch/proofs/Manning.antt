-- a warehouse with its vehicles, as a machine: one line, and many
use Rattle.std.proofs.Common.{◌≡◌, ℕ, ◌≤◌, ◌∙◌, List, [], ◌∷◌, ◌++◌, length, take, drop, Option, Some, None, Err, inl, inr, sym, subst, refl, ap, append-nil, Bool, true, false, cond, arith}
use Rattle.std.proofs.lemmas.Bool.{lt-ltb}
use Rattle.std.proofs.lemmas.Bool.Decides.{leb_tells}
use Rattle.std.proofs.lemmas.List.{length-append}
use Rattle.std.proofs.Math.Seq.{drop-append_seam}
use Rattle.wh_text.specs.Lines.{without_cr}
use Rattle.wh_text.specs.Words.{words_of}
use Rattle.wh_words.specs.Lines.{text_of as lines_text}
use Rattle.wh_lines.specs.Text.{short_line}
use Rattle.wh_session.specs.Machines as sessions
use Rattle.wh_session.specs.Machines.{Records, fitting}
use Rattle.wh_session.specs.declared.machine.Halt.TheVariants as halts
use Rattle.wh_grid.specs.Grids.{Floor}
use Rattle.wh_book.specs.Drafts.{Seen}
use Rattle.wh_event.specs.CommandLines.{command_by}
use Rattle.wh_event.specs.declared.entry.Entry.{Entry}
use Rattle.wh_replay.specs.declared.asker.Asker.{Asker}
use Rattle.wh_event.specs.declared.fault.LineFault.TheVariants.{TooLong}
use Rattle.wh_replay.specs.Answers.{text_of}
use Rattle.wh_replay.proofs.Appended.{entries_more}
use Rattle.wh_drive.specs.Drives.{Drive}
use Rattle.wh_order.specs.Orders.{Represents}
use Rattle.wh_vehicles.specs.Reports.{report_by}
use Rattle.wh_dispatch.specs.declared.script.DispatchFault.{DispatchFault}
use Rattle.wh_dispatch.specs.declared.script.DispatchFault.TheVariants.{Broken, Endless, Unwritten, NoMemory, NoRoom}
use Rattle.wh_dispatch.specs.Crews.{Crew, IsManned}
use Rattle.wh_dispatch.specs.Lines.{Depot, Heard, heard_by, heard, heard_in, TakesLine, ServesLine, ServesAll}
use Rattle.wh_dispatch.specs.Scripts.{WritesUntil, ServesFrom, BeginsFrom}
use Rattle.wh_dispatch.specs.Keeping.{KeepsAll, kept_of, kept_in}
use Rattle.wh_dispatch.specs.Manning.{Manning, Names, StandsSo, AreAlike, ServesManned, WaitsSo, HaltsManned, said_of, kept_by, halt_by}
use Rattle.wh_dispatch.proofs.Texts.{text_append}
use Rattle.wh_dispatch.proofs.Serving.{taken_on}
use Rattle.wh_dispatch.proofs.Kept.{kept_fitting, kept_is_served, kept_none, kept_lines, kept_more, none_behind}

-- what a line says is told by what is kept of it
pub heard_fitting : (line : List ℕ) → heard_in (fitting line) ≡ heard line
heard_fitting text =
    elim (leb_tells (length text) 256) [
      | inl short ↦ ap (λ b. heard_in (cond b (Some text) None)) short.0
      | inr long ↦ ap (λ b. heard_in (cond b (Some text) None)) long.0
          ∙ sym (ap (λ (b : Bool). heard_by (cond b None (report_by (words_of text))) (cond b (Err TooLong) (command_by (words_of text)))) (lt-ltb 256 (length text) long.1))
    ]

pub heard_is : (raw : List ℕ) → heard_in (short_line raw) ≡ heard (without_cr raw)
heard_is raw = heard_fitting (without_cr raw)

-- the state by a drive of the vehicles
abbrev pub begun_by : {X : Type 0} → Seen → List X → Crew → Asker → Names → Drive → Manning X
begun_by book spares crew asker names d = record { depot = record { book = book; spares = spares; drive = d }; asker = asker; bound = crew.bound; names = names; halted = false; left = [] }

pub begun_stands : {X : Type 0} (book : Seen) (spares : List X) (crew : Crew) (asker : Asker) (names : Names) (halted : Bool) (first begun : ℕ) (said : List ℕ) → halted ≡ false → first ≤ length book.history → begun ≤ length said →
    (d : Drive) → IsManned book crew d → StandsSo book spares crew asker names halted first begun said (begun_by book spares crew asker names d)
begun_stands book spares crew asker names halted first begun said going place room d m = record {
  book_is = refl;
  spares_are = refl;
  manned = λ _. m;
  asker_is = refl;
  bound_is = refl;
  names_are = refl;
  halted_is = going;
  first_within = place;
  begun_within = room;
  left_is = λ q. cc;
}

-- the machine holds this warehouse
pub depot_is : {X : Type 0} (book : Seen) (spares : List X) (crew : Crew) (asker : Asker) (names : Names) (halted : Bool) (first begun : ℕ) (said : List ℕ) (s : Manning X) → StandsSo book spares crew asker names halted first begun said s →
    ◌≡◌ {A = Depot X} s.depot (record { book = book; spares = spares; drive = s.depot.drive })
depot_is book spares crew asker names halted first begun said s h i = record { book = sym h.book_is i; spares = sym h.spares_are i; drive = s.depot.drive }

module _ {X : Type 0} (fits : X → Floor → Bool) (count : X → ℕ) where
  -- lines that the machine served are lines of a script with vehicles, and so are their records
  pub record Came (logged : Bool) (lines : List (List ℕ)) (s e : Manning X) (told : List ℕ) (records : Records) : Type 0 where
    pub texts : List (List ℕ)
    pub kept : List (List ℕ)
    pub added : List Entry
    pub all : KeepsAll fits count s.asker s.bound lines s.depot e.depot texts kept
    pub added_are : e.depot.book.history ≡ s.depot.book.history ++ added
    pub told_is : told ≡ text_of texts
    pub records_are : records ≡ kept_by logged added (lines_text kept)
    pub alike : AreAlike s e
    pub going : e.halted ≡ false

  pub came : (logged : Bool) (lines : List (List ℕ)) (s e : Manning X) (told : List ℕ) (records : Records) → s.halted ≡ false → sessions.ServesAll (ServesManned fits count logged) lines s told records e → Came logged lines s e told records
  came logged [] s e told records going all = record {
    texts = [];
    kept = [];
    added = [];
    all = (ap (λ (m : Manning X). m.depot) all.0, refl, refl);
    added_are = ap (λ (m : Manning X). m.depot.book.history) all.0 ∙ sym (append-nil s.depot.book.history);
    told_is = all.1;
    records_are = all.2 ∙ sym (kept_none logged);
    alike = record { asker_is = ap (λ (m : Manning X). m.asker) all.0; bound_is = ap (λ (m : Manning X). m.bound) all.0; names_are = ap (λ (m : Manning X). m.names) all.0 };
    going = ap (λ (m : Manning X). m.halted) all.0 ∙ going;
  }
  came logged (line ∷ lines) s e told records going all =
      let mid = all.0 in
      let did = all.5 in
      let more = came logged lines mid e all.2 all.4 did.goes_on all.6 in
      let one = subst (λ (h : Heard). ServesLine fits count s.asker s.bound h s.depot mid.depot did.texts) (heard_fitting line) did.serves in
      let others = subst (λ (n : ℕ). KeepsAll fits count s.asker n lines mid.depot e.depot more.texts more.kept) did.alike.bound_is
      (subst (λ (f : Asker). KeepsAll fits count f mid.bound lines mid.depot e.depot more.texts more.kept) did.alike.asker_is more.all) in
      let kept = kept_of s.depot.drive line in
      let first : all.3 ≡ kept_by logged did.added (lines_text kept) = did.kept_is ∙ ap (λ (k : List (List ℕ)). kept_by logged did.added (lines_text k)) (kept_fitting s.depot.drive line) in
      record {
        texts = did.texts ++ more.texts;
        kept = kept ++ more.kept;
        added = did.added ++ more.added;
        all = (mid.depot, did.texts, more.texts, more.kept, one, others, refl, refl);
        added_are = entries_more s.depot.book.history mid.depot.book.history e.depot.book.history did.added more.added did.added_are more.added_are;
        told_is = all.7 ∙ ap (λ (t : List ℕ). t ++ all.2) did.told_is ∙ ap (λ (t : List ℕ). text_of did.texts ++ t) more.told_is ∙ sym (text_append did.texts more.texts);
        records_are = all.8 ∙ ap (λ (r : Records). sessions.joined r all.4) first ∙ ap (λ (r : Records). sessions.joined (kept_by logged did.added (lines_text kept)) r) more.records_are
            ∙ sym (kept_lines logged did.added more.added kept more.kept);
        alike = record { asker_is = more.alike.asker_is ∙ did.alike.asker_is; bound_is = more.alike.bound_is ∙ did.alike.bound_is; names_are = more.alike.names_are ∙ did.alike.names_are };
        going = more.going;
      }

  -- whatever is kept of them
  pub served_all : (logged : Bool) (lines : List (List ℕ)) (s e : Manning X) (told : List ℕ) (records : Records) (c : Came logged lines s e told records) → ServesAll fits count s.asker s.bound lines s.depot e.depot c.texts
  served_all logged lines s e told records c = kept_is_served fits count s.asker s.bound lines s.depot e.depot c.texts c.kept c.all

  -- ---- one line

  module _ (logged : Bool) (line : Option (List ℕ)) (old : Seen) (spares : List X) (crew : Crew) (asker : Asker) (names : Names) (halted : Bool) (first begun : ℕ) (said : List ℕ) (going : halted ≡ false) (s : Manning X)
      (h : StandsSo old spares crew asker names halted first begun said s) (start : ℕ) (here : start ≡ length said) where
    still : s.halted ≡ false
    still = sym h.halted_is ∙ going

    -- it was not begun
    pub line_unbegun : logged ≡ true → (e : Manning X) × StandsSo old spares crew asker names true first start said e × HaltsManned fits count logged s line halts.NoMemory e
    line_unbegun is = (
      record { depot = s.depot; asker = s.asker; bound = s.bound; names = s.names; halted = true; left = [] },
      record {
        book_is = h.book_is;
        spares_are = h.spares_are;
        manned = λ q. cc;
        asker_is = h.asker_is;
        bound_is = h.bound_is;
        names_are = h.names_are;
        halted_is = refl;
        first_within = h.first_within;
        begun_within = omega (arith, here);
        left_is = λ _. ap (λ (n : ℕ). drop n said) here ∙ none_behind said;
      },
      record { names_are = refl; halted = refl; taken = λ _. inr (record { is_logged = is; halt_is = refl; depot_is = refl; left_is = refl }) },
    )

    module _ (new : Seen) (rest : List X) (next : Crew) (says : List ℕ) (bound : next.bound ≡ crew.bound) where
      abbrev from : Depot X
      from = record { book = old; spares = spares; drive = s.depot.drive }

      abbrev to : Drive → Depot X
      to d = record { book = new; spares = rest; drive = d }

      at : from ≡ s.depot
      at i = record { book = h.book_is i; spares = h.spares_are i; drive = s.depot.drive }

      serves_at : (e : Drive) (texts : List (List ℕ)) → ServesLine fits count asker crew.bound (heard_in line) from (to e) texts → ServesLine fits count s.asker s.bound (heard_in line) s.depot (to e) texts
      serves_at e texts one =
          subst (λ (d : Depot X). ServesLine fits count s.asker s.bound (heard_in line) d (to e) texts) at
          (subst (λ (b : ℕ). ServesLine fits count s.asker b (heard_in line) from (to e) texts) h.bound_is
          (subst (λ (f : Asker). ServesLine fits count f crew.bound (heard_in line) from (to e) texts) h.asker_is one))

      takes_at : (e : Drive) (texts : List (List ℕ)) → TakesLine fits count asker crew.bound (heard_in line) from (to e) texts → TakesLine fits count s.asker s.bound (heard_in line) s.depot (to e) texts
      takes_at e texts one =
          subst (λ (d : Depot X). TakesLine fits count s.asker s.bound (heard_in line) d (to e) texts) at
          (subst (λ (b : ℕ). TakesLine fits count s.asker b (heard_in line) from (to e) texts) h.bound_is
          (subst (λ (f : Asker). TakesLine fits count f crew.bound (heard_in line) from (to e) texts) h.asker_is one))

      -- the entries of before are a front of those of then
      first_before : (added : List Entry) → new.history ≡ old.history ++ added → first ≤ length new.history
      first_before added grown = let all = ap (λ (es : List Entry). length es) grown ∙ length-append old.history added in omega (arith, all, h.first_within)

      said_before : (more : List ℕ) → says ≡ said ++ more → start ≤ length says
      said_before more grown = let all = ap (λ (l : List ℕ). length l) grown ∙ length-append said more in omega (arith, all, here)

      said_behind : (more : List ℕ) → says ≡ said ++ more → drop start says ≡ more
      said_behind more grown = ap (λ (n : ℕ). drop n says) here ∙ ap (λ (l : List ℕ). drop (length said) l) grown ∙ drop-append_seam said more

      -- it was served
      pub line_served : (came comes : List ℕ) → (logged ≡ true → (d : Drive) → Represents crew.order d → comes ≡ came ++ lines_text (kept_in d line)) →
          ServesFrom fits count asker crew.bound (heard_in line) old spares crew new rest next (Some said) (Some says) →
          (e : Manning X) × StandsSo new rest next asker names halted first start says e
          × sessions.ServesOne (ServesManned fits count logged) line s e (said_of halted said) (said_of halted says) (kept_by logged (drop first old.history) came) (kept_by logged (drop first new.history) comes)
      line_served came comes noted serves =
          let manned = h.manned still in
          let one = serves s.depot.drive manned in
          let did = taken_on fits count asker crew.bound (heard_in line) from (to one.0) one.2.texts one.2.serves.takes in
          let kept = lines_text (kept_in s.depot.drive line) in
          let e : Manning X = record { depot = to one.0; asker = s.asker; bound = s.bound; names = s.names; halted = false; left = [] } in (
            e,
            record {
              book_is = refl;
              spares_are = refl;
              manned = λ _. one.1;
              asker_is = h.asker_is;
              bound_is = bound ∙ h.bound_is;
              names_are = h.names_are;
              halted_is = going;
              first_within = first_before did.entries did.grows.history;
              begun_within = said_before (text_of one.2.texts) one.2.appends;
              left_is = λ q. cc;
            },
            record {
              told = text_of one.2.texts;
              kept = kept_by logged did.entries kept;
              did = record {
                texts = one.2.texts;
                serves = serves_at one.0 one.2.texts one.2.serves;
                told_is = refl;
                added = did.entries;
                added_are = did.grows.history ∙ ap (λ (b : Seen). b.history ++ did.entries) h.book_is;
                kept_is = refl;
                alike = record { asker_is = refl; bound_is = refl; names_are = refl };
                goes_on = refl;
              };
              says_are = subst (λ (b : Bool). said_of b says ≡ said_of b said ++ text_of one.2.texts) (sym going) one.2.appends;
              comes_are = kept_more logged old.history new.history did.entries first came comes kept h.first_within did.grows.history (λ is. noted is s.depot.drive manned.in_step.represents);
            },
          )

      -- what waits of a line that was left
      halt_written : (fault : DispatchFault) (texts : List ℕ) → WritesUntil fault (Some said) (Some says) texts → WaitsSo (halt_by fault) (drop start says) texts
      halt_written NoMemory texts w = said_behind texts w
      halt_written Unwritten texts w = (w.count, said_behind (take w.count texts) w.appends)
      halt_written NoRoom texts w = (w.count, said_behind (take w.count texts) w.appends)
      halt_written Broken texts w = absurd w
      halt_written Endless texts w = absurd w

      said_left : (fault : DispatchFault) (texts : List ℕ) → WritesUntil fault (Some said) (Some says) texts → start ≤ length says
      said_left NoMemory texts w = said_before texts w
      said_left Unwritten texts w = said_before (take w.count texts) w.appends
      said_left NoRoom texts w = said_before (take w.count texts) w.appends
      said_left Broken texts w = absurd w
      said_left Endless texts w = absurd w

      -- it was left in its midst
      pub line_left : (fault : DispatchFault) → BeginsFrom fits count asker crew.bound (heard_in line) fault old spares crew new rest (Some said) (Some says) →
          (e : Manning X) × StandsSo new rest next asker names true first start says e × HaltsManned fits count logged s line (halt_by fault) e
      line_left fault begins =
          let one = begins s.depot.drive (h.manned still) in
          let did = taken_on fits count asker crew.bound (heard_in line) from (to one.0) one.1.texts one.1.takes in
          let e : Manning X = record { depot = to one.0; asker = s.asker; bound = s.bound; names = s.names; halted = true; left = drop start says } in (
            e,
            record {
              book_is = refl;
              spares_are = refl;
              manned = λ q. cc;
              asker_is = h.asker_is;
              bound_is = bound ∙ h.bound_is;
              names_are = h.names_are;
              halted_is = refl;
              first_within = first_before did.entries did.grows.history;
              begun_within = said_left fault (text_of one.1.texts) one.1.writes;
              left_is = λ _. refl;
            },
            record {
              names_are = refl;
              halted = refl;
              taken = λ _. inl (record {
                texts = one.1.texts;
                takes = takes_at one.0 one.1.texts one.1.takes;
                left_is = halt_written fault (text_of one.1.texts) one.1.writes;
              });
            },
          )

  -- what waited was told
  pub cleared : (old : Seen) (spares : List X) (crew : Crew) (asker : Asker) (names : Names) (halted : Bool) (first begun : ℕ) (said : List ℕ) (first_then begun_then : ℕ) (says : List ℕ) → first_then ≡ length old.history → begun_then ≤ length says →
      (halted ≡ true → drop begun_then says ≡ drop begun said) → (s : Manning X) → StandsSo old spares crew asker names halted first begun said s → StandsSo old spares crew asker names halted first_then begun_then says s
  cleared old spares crew asker names halted first begun said first_then begun_then says here room same s h = record {
    book_is = h.book_is;
    spares_are = h.spares_are;
    manned = h.manned;
    asker_is = h.asker_is;
    bound_is = h.bound_is;
    names_are = h.names_are;
    halted_is = h.halted_is;
    first_within = omega (arith, here);
    begun_within = room;
    left_is = λ is. same (h.halted_is ∙ is) ∙ h.left_is is;
  }
