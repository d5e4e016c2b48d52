-- what is found of a front that was restored
use Rattle.std.proofs.Common.{◌≡◌, ◌≤◌, ◌<◌, ◌+◌, ◌^◌, ℕ, inl, inr, Bool, List, [], ◌∷◌, ◌++◌, length, take, refl, sym, ap, ap₂, ◌∙◌, subst, arith, length-append, Some, None, Result, Ok, Err}
use Rattle.std.specs.Prelude.{IfOk, All, map, slice_get, slice_index_or}
use Rattle.std.proofs.lemmas.List.{length-map}
use Rattle.std.proofs.lemmas.Option.{same_Some}
use Prim.Native.Nat.{zero, suc}
use Rattle.std.proofs.Math.Seq.{take-append_seam}
use Rattle.wh_grid.specs.Grids.{Floor}
use Rattle.wh_points.specs.Points.{Layout, Site}
use Rattle.wh_core.specs.States.{State}
use Rattle.wh_state.specs.Columns.{state_in}
use Rattle.wh_state.specs.declared.parts.StateParts.{StateParts}
use Rattle.wh_stand.specs.Ways.{site_at}
use Rattle.wh_log.specs.Logs.{IsSlots}
use Rattle.wh_front.specs.declared.rules.Rules.{Rules}
use Rattle.wh_front.specs.declared.front.Front.{Front}
use Rattle.wh_front.specs.declared.front.Seat.{Seat}
use Rattle.wh_front.specs.Ranges.{are_told}
use Rattle.wh_front.specs.Fronts.{front_text, front_lines}
use Rattle.wh_restore.specs.Heads.{first_two_lines}
use Rattle.wh_restore.specs.SoundFronts.{IsSoundFront, state_told}
use Rattle.wh_restore.specs.Restoring.{IsRestored}
use Rattle.wh_restore.specs.declared.restored.Restored.{Restored}
use Rattle.wh_log.specs.declared.fault.NoMemory.{NoMemory}
use Rattle.wh_resume.specs.declared.looking.Begun.{Begun}
use Rattle.wh_resume.specs.declared.looking.Looked.{Looked}
use Rattle.wh_resume.specs.declared.looking.Looked.TheVariants as looked
use Rattle.wh_resume.specs.Behind.{IsVersionThree}
use Rattle.wh_resume.specs.Looking.{IsFirstOdd, IsOfFront, LooksAt, Looks, lines_to_agents}
use Rattle.wh_resume.proofs.FrontLaws.{seat_there, agent_place, count_lines, told_homes}

slots_read : (seats : List Seat) (agent : ℕ) (seat : Seat) → slice_get seats agent ≡ Some seat → slice_index_or (map (λ (seat : Seat). seat.slots) seats) agent 0 ≡ seat.slots
slots_read [] agent seat is = absurd cc
slots_read (one ∷ seats) zero seat is = ap (λ (s : Seat). s.slots) (same_Some one seat is)
slots_read (one ∷ seats) (suc agent) seat is = slots_read seats agent seat is

-- what is known of what was restored
record Known (grid : Floor) (layout : Layout) (homes : Bool) (text : List ℕ) (told : List ℕ) (r : Restored) (front : Front) : Type 0 where
  sound : IsSoundFront (site_at grid layout homes) (record { homes = homes; age = None }) front
  text_is : text ≡ front_text front ++ r.rest.now
  restored : IsRestored front r
  size : told ≡ text
  room : length text < 2 ^ 63

told_of : (grid : Floor) (layout : Layout) (homes : Bool) (text : List ℕ) (told : List ℕ) (r : Restored) (front : Front) → Known grid layout homes text told r front → are_told front.rules.homes front.rules.age ≡ homes
told_of grid layout homes text told r front k = ap (λ (rules : Rules). are_told rules.homes rules.age) k.sound.rules_are ∙ told_homes homes

begun_so : (grid : Floor) (layout : Layout) (homes : Bool) (text : List ℕ) (told : List ℕ) (r : Restored) (front : Front) (begun : Begun) → Known grid layout homes text told r front
    → All IsSlots r.state.slots.items → IsOfFront homes told r begun → Looks (site_at grid layout homes) text (looked.Begun begun)
begun_so grid layout homes text told r front begun k slots of =
    let state = k.restored.state in
    let paths : length r.state.paths.items ≡ length front.seats = ap (λ (s : State). length s.paths) state ∙ length-map front.seats (λ (seat : Seat). seat.path) in
    let tasks : length r.state.tasks.items ≡ length front.tasks = ap (λ (s : State). length s.tasks) state ∙ length-map front.tasks (λ submission. submission.task) in
    let count = count_lines front homes (told_of grid layout homes text told r front k) in
    let bytes : begun.front ≡ length (front_text front) = omega (arith, of.front, ap length k.size, ap length k.text_is, length-append (front_text front) r.rest.now) in
    record {
      front = front;
      is_front = k.sound;
      slots = subst (λ (s : State). All IsSlots s.slots) state slots;
      rest = r.rest.now;
      text_is = k.text_is;
      room = k.room;
      state = ap (λ (p : StateParts). state_in p) of.parts ∙ state;
      preface = record {
        head_is = of.head ∙ k.restored.head;
        callers_are = of.callers ∙ k.restored.callers;
        lines_are = omega (arith, of.lines, paths, tasks, count);
        text_is = of.copied ∙ ap₂ (λ (n : ℕ) (t : List ℕ). take n t) bytes (k.size ∙ k.text_is) ∙ take-append_seam (front_text front) r.rest.now;
      };
      bytes = bytes;
      log = of.log ∙ ap (λ (s : State). first_two_lines s.clock s.slots ++ r.rest.now) state;
      two = of.two ∙ ap (λ (s : State). length (first_two_lines s.clock s.slots)) state;
    }

looks_by : (grid : Floor) (layout : Layout) (homes : Bool) (text : List ℕ) (told : List ℕ) (r : Restored) (front : Front) (said : Looked) → Known grid layout homes text told r front → IsVersionThree text
    → LooksAt homes told r said → Looks (site_at grid layout homes) text said
looks_by grid layout homes text told r front (looked.Begun begun) k three is = begun_so grid layout homes text told r front begun k is.0 is.1
looks_by grid layout homes text told r front (looked.Flawed line reason) k three is =
    let state = k.restored.state in
    let odd : IsFirstOdd (map (λ (seat : Seat). seat.slots) front.seats) is.1.0 = subst (λ (s : State). IsFirstOdd s.slots is.1.0) state is.1.1 in
    let seat = seat_there front.seats is.1.0 (omega (arith, odd.known, length-map front.seats (λ (seat : Seat). seat.slots))) in
    record {
      version = three;
      why = inr (
        is.0,
        record {
          front = front;
          is_front = k.sound;
          rest = r.rest.now;
          text_is = k.text_is;
          agent = is.1.0;
          seat = seat.0;
          seat_is = seat.1;
          place = lines_to_agents homes + is.1.0;
          place_is = agent_place front homes is.1.0 seat.0 (told_of grid layout homes text told r front k) seat.1;
          line_is = is.1.2;
          odd = subst (λ (n : ℕ). IsSlots n → ⊥) (slots_read front.seats is.1.0 seat.0 seat.1) odd.odd;
          earlier = λ other one before there. subst (λ (n : ℕ). IsSlots n) (slots_read front.seats other one there) (odd.earlier other before);
        },
      );
    }

looks_so : (grid : Floor) (layout : Layout) (homes : Bool) (text : List ℕ) (told : List ℕ) (r : Restored) (front : Front) (said : Looked) → IsSoundFront (site_at grid layout homes) (record { homes = homes; age = None }) front
    → text ≡ front_text front ++ r.rest.now → IsRestored front r → told ≡ text → length text < 2 ^ 63 → IsVersionThree text → LooksAt homes told r said → Looks (site_at grid layout homes) text said
looks_so grid layout homes text told r front said sound parts restored size room three is =
    looks_by grid layout homes text told r front said (record { sound = sound; text_is = parts; restored = restored; size = size; room = room }) three is

pub looks_result : (grid : Floor) (layout : Layout) (homes : Bool) (text : List ℕ) (told : List ℕ) (r : Restored) (front : Front) (said : Result Looked NoMemory) → IsSoundFront (site_at grid layout homes) (record { homes = homes; age = None }) front
    → text ≡ front_text front ++ r.rest.now → IsRestored front r → told ≡ text → length text < 2 ^ 63 → IsVersionThree text → IfOk said (LooksAt homes told r) → IfOk said (Looks (site_at grid layout homes) text)
looks_result grid layout homes text told r front (Ok said) sound parts restored size room three is = looks_so grid layout homes text told r front said sound parts restored size room three is
looks_result grid layout homes text told r front (Err fault) sound parts restored size room three is = tt
