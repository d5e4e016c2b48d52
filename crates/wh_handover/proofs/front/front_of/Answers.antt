use Rattle.std.proofs.Common.{◌≡◌, ◌∙◌, ◌++◌, List, true, false, length, take, refl, sym, ap, subst, inl, inr, true≢false}
use Rattle.sha2.specs.Sha256.{sha256}
use Rattle.hex.specs.Hex.{encode_lower}
use Rattle.wh_core.specs.Steps.{Run}
use Rattle.wh_core.specs.States.{State}
use Rattle.wh_event.specs.declared.entry.Entry.{Entry}
use Rattle.wh_log.specs.Ranges.{IsSmall}
use Rattle.wh_front.specs.declared.front.Count.{Count}
use Rattle.wh_front.specs.declared.before.Before.TheVariants as before
use Rattle.wh_resume.specs.Behind.{entries_told}
use Rattle.wh_snapshot.specs.Snapshots.{CanCount, all_told}
use Rattle.wh_handover.specs.Handing.{seen_after}
use Rattle.wh_handover.specs.Prefaces.{callers_had, counts_had, cut_at}
use Rattle.wh_handover.proofs.Counting.{is_count, is_outside}
use Rattle.wh_handover.proofs.Facts.{known, tells, snapshot_as}
use Rattle.wh_handover.proofs.front.front_of.Goals as goal

pub returns-then-not-can_count-clause-fault : goal.returns-then-not-can_count-clause-fault
returns-then-not-can_count-clause-fault c =
    let r = c.args.resumed.now in
    let k = known r.book.site c.args.text.now r r.preface c.requires.tells in
    inl (
      refl,
      record {
        told = k.told;
        tells = tells r.book.site c.args.text.now r.bytes r.book r.preface k c.history-history.ensures.opening c.history-history.ensures.run;
        why = inr (inl (λ can.
            let here = subst (λ (cs : List Count). CanCount cs c.history-history.result.now) (sym (c.earlier_of-earlier.ensures.counts ∙ k.counts_are))
            (subst (λ (es : List Entry). CanCount k.told.counts es) (sym (c.history-history.ensures.value ∙ k.entries_are)) can) in
            let no : false ≡ true = sym c.if-not-can_count.true ∙ c.can_count.ensures.1 here in
            true≢false (sym no)));
      },
    )

pub returns-in_default-clause-fault : goal.returns-in_default-clause-fault
returns-in_default-clause-fault c =
    let r = c.args.resumed.now in
    let k = known r.book.site c.args.text.now r r.preface c.requires.tells in
    inl (
      refl,
      record {
        told = k.told;
        tells = tells r.book.site c.args.text.now r.bytes r.book r.preface k c.history-history.ensures.opening c.history-history.ensures.run;
        why = inl (is_outside c.args.after k.told (all_told c.earlier_of-earlier.result.counts.now) (length c.history-history.result.now) (ap all_told (c.earlier_of-earlier.ensures.counts ∙ k.counts_are))
            (ap (λ (es : List Entry). length es) (c.history-history.ensures.value ∙ k.entries_are)) c.in_default.ensures.none);
      },
    )

pub returns-in_default-number_of-clause-fault : goal.returns-in_default-number_of-clause-fault
returns-in_default-number_of-clause-fault c =
    let r = c.args.resumed.now in
    let k = known r.book.site c.args.text.now r r.preface c.requires.tells in
    inl (
      refl,
      record {
        told = k.told;
        tells = tells r.book.site c.args.text.now r.bytes r.book r.preface k c.history-history.ensures.opening c.history-history.ensures.run;
        why = inr (inr (λ small. c.in_default-number_of.ensures.none (subst IsSmall (sym k.number_is) small)));
      },
    )

pub before_of-requires-clause-holds : goal.before_of-requires-clause-holds
before_of-requires-clause-holds c =
    let r = c.args.resumed.now in
    let k = known r.book.site c.args.text.now r r.preface c.requires.tells in (
      k.told.head,
      k.rest,
      subst (λ (es : List Entry). c.args.text.now ≡ (k.told.head ++ entries_told es) ++ k.rest) (sym c.history-history.ensures.value) k.text_is,
      subst (λ (es : List Entry). r.bytes ≡ length (k.told.head ++ entries_told es)) (sym c.history-history.ensures.value) k.bytes_are,
    )

pub returns-clause-ok : goal.returns-clause-ok
returns-clause-ok c =
    let r = c.args.resumed.now in
    let k = known r.book.site c.args.text.now r r.preface c.requires.tells in
    let text = subst (λ (es : List Entry). c.args.text.now ≡ (k.told.head ++ entries_told es) ++ k.rest) (sym c.history-history.ensures.value) k.text_is in
    let bytes = subst (λ (es : List Entry). r.bytes ≡ length (k.told.head ++ entries_told es)) (sym c.history-history.ensures.value) k.bytes_are in
    let entries = c.history-history.ensures.value ∙ k.entries_are in
    let count = c.in-Some.count in
    let made = c.in_ok-front.ensures.is in
    let numbered : c.in-Some-number_of.number ≡ k.told.number = c.in-Some-number_of.ensures.some.0 ∙ k.number_is in (
      record {
        told = k.told;
        tells = tells r.book.site c.args.text.now r.bytes r.book r.preface k c.history-history.ensures.opening c.history-history.ensures.run;
        count = count;
        count_is = is_count c.args.after k.told (all_told c.earlier_of-earlier.result.counts.now) (length c.history-history.result.now) count (ap all_told (c.earlier_of-earlier.ensures.counts ∙ k.counts_are))
            (ap (λ (es : List Entry). length es) entries) c.in-Some.ensures.some.0 c.in-Some.ensures.some.1;
        state = made.0;
        run = subst (λ (s : State). Run r.book.site s (take count k.told.entries) made.0) k.opening_is (subst (λ (es : List Entry). Run r.book.site r.book.opening (take count es) made.0) k.entries_are made.1);
        is = snapshot_as (callers_had r.preface) k.told.callers (counts_had r.preface) k.told.counts (cut_at r.book count made.0) (seen_after r.book.site k.told count made.0) c.in_ok-front.front
            k.callers_are k.counts_are refl (ap (λ (es : List Entry). take count es) k.entries_are) made.2;
        state_is = made.3;
        before_is = c.in_ok-front.ensures.before ∙ c.in_ok-before.ensures.value k.told.head k.rest text bytes
            ∙ ap (λ (es : List Entry). before.Log c.in-Some-number_of.number (length (k.told.head ++ entries_told (take count es))) (encode_lower (sha256 (k.told.head ++ entries_told (take count es))))) entries
            ∙ ap (λ n. before.Log n (length (k.told.head ++ entries_told (take count k.told.entries))) (encode_lower (sha256 (k.told.head ++ entries_told (take count k.told.entries))))) numbered;
        rules_are = c.in_ok-front.ensures.rules;
        kind_is = c.in_ok-front.ensures.kind;
        fits = c.in_ok-front.ensures.fits;
      },
      sym k.opening_is,
    )
