-- What `clap` answers at the words, as options, requests and errors of the product.
use Rattle.std.proofs.Common.{◌≡◌, ◌∙◌, [], ◌∷◌, map, subst, inl, inr, sym, ap}
use Rattle.std.proofs.lemmas.Result.{err_from_is_err_and}
use Rattle.clap.specs.Kinds.{HasKind, IsAmong, Kinds}
use Rattle.clap.specs.Values.{kind_of}
use Rattle.clap.specs.declared.error.Error.{Error}
use Rattle.clap.specs.declared.error.kind.ErrorKind.{ErrorKind}
use Rattle.clap.specs.declared.error.kind.ErrorKind.TheVariants.{ArgumentConflict, DisplayHelp, DisplayVersion, MissingRequiredArgument, OutOfMemory, ValueValidation}
use Rattle.wh_options.specs.Requests.{IsKind}
use Rattle.wh_options.proofs.Asks.{help_is_given, version_is_given}
use Rattle.wh_options.specs.Reads.{kind_of_mistake}
use Rattle.wh_options.proofs.Amiss.{clashing, clientless, lacking, mistaken_never, mistaken_once}
use Rattle.wh_options.proofs.Exact.{given_is_taken, said_is_taken}
use Rattle.wh_options.proofs.Once.{given_once}
use Rattle.wh_options.proofs.Lines.{words_give, words_mistaken}
use Rattle.wh_options.proofs.Menus.{menu_is_simple}
use Rattle.wh_options.proofs.read.options.Goals as goal

-- a list of kinds is not empty and of one
some_kind : (k : ErrorKind) (kinds : Kinds) → kinds ≡ k ∷ [] → kinds ≡ [] → ⊥
some_kind k kinds e f =
    let bad : k ∷ [] ≡ [] = sym e ∙ f in
    cc

one_kind : (k : ErrorKind) (kinds : Kinds) (e : Error) → HasKind kinds e → kinds ≡ k ∷ [] → IsKind k e
one_kind k kinds e (inl memory) only = inr memory
one_kind k kinds e (inr among) only = elim (subst (λ ks. IsAmong (kind_of e) ks) only among) [
  | inl is ↦ inl is
  | inr none ↦ absurd none
]

same_kind : (k : ErrorKind) (d e : Error) → e ≡ d → IsKind k d → IsKind k e
same_kind k d e same is = subst (IsKind k) (sym same) is

pub returns-in-Ok-clause-ok : goal.returns-in-Ok-clause-ok
returns-in-Ok-clause-ok g c =
    let menu = c.in_ok-warehouse_command.ensures in
    let simple = menu_is_simple _ menu in
    let found = c.in_ok-matches.ensures in
    let read = rw c.in-Ok.is at c.in_ok-options.ensures.read in
    let gives = words_give _ (map g.W.AsStr.text c.args.words.now) c.in-Ok.options menu (found.kinds simple.0)
    (λ name rows e. read name rows ((found.matches simple.1).1 ∙ e)) in
    gives

pub returns-in-Ok-clause-only : goal.returns-in-Ok-clause-only
returns-in-Ok-clause-only g c =
    let menu = c.in_ok-warehouse_command.ensures in
    let simple = menu_is_simple _ menu in
    let found = c.in_ok-matches.ensures in
    let read = rw c.in-Ok.is at c.in_ok-options.ensures.read in
    let gives = words_give _ (map g.W.AsStr.text c.args.words.now) c.in-Ok.options menu (found.kinds simple.0)
    (λ name rows e. read name rows ((found.matches simple.1).1 ∙ e)) in
    λ p other. given_once (map g.W.AsStr.text c.args.words.now) p c.in-Ok.options other gives

pub returns-in-Ok-clause-lacking : goal.returns-in-Ok-clause-lacking
returns-in-Ok-clause-lacking g c =
    let menu = c.in_ok-warehouse_command.ensures in
    let simple = menu_is_simple _ menu in
    let found = c.in_ok-matches.ensures in
    let read = rw c.in-Ok.is at c.in_ok-options.ensures.read in
    let gives = words_give _ (map g.W.AsStr.text c.args.words.now) c.in-Ok.options menu (found.kinds simple.0)
    (λ name rows e. read name rows ((found.matches simple.1).1 ∙ e)) in
    λ amiss. mistaken_never MissingRequiredArgument (map g.W.AsStr.text c.args.words.now) (lacking (map g.W.AsStr.text c.args.words.now) amiss) c.in-Ok.options gives

pub returns-in-Ok-clause-clashing : goal.returns-in-Ok-clause-clashing
returns-in-Ok-clause-clashing g c =
    let menu = c.in_ok-warehouse_command.ensures in
    let simple = menu_is_simple _ menu in
    let found = c.in_ok-matches.ensures in
    let read = rw c.in-Ok.is at c.in_ok-options.ensures.read in
    let gives = words_give _ (map g.W.AsStr.text c.args.words.now) c.in-Ok.options menu (found.kinds simple.0)
    (λ name rows e. read name rows ((found.matches simple.1).1 ∙ e)) in
    λ amiss. mistaken_never ArgumentConflict (map g.W.AsStr.text c.args.words.now) (clashing (map g.W.AsStr.text c.args.words.now) amiss) c.in-Ok.options gives

pub returns-in-Ok-clause-clientless : goal.returns-in-Ok-clause-clientless
returns-in-Ok-clause-clientless g c =
    let menu = c.in_ok-warehouse_command.ensures in
    let simple = menu_is_simple _ menu in
    let found = c.in_ok-matches.ensures in
    let read = rw c.in-Ok.is at c.in_ok-options.ensures.read in
    let gives = words_give _ (map g.W.AsStr.text c.args.words.now) c.in-Ok.options menu (found.kinds simple.0)
    (λ name rows e. read name rows ((found.matches simple.1).1 ∙ e)) in
    λ amiss. mistaken_never ValueValidation (map g.W.AsStr.text c.args.words.now) (clientless (map g.W.AsStr.text c.args.words.now) amiss) c.in-Ok.options gives

pub returns-in-Ok-clause-help : goal.returns-in-Ok-clause-help
returns-in-Ok-clause-help g c =
    let menu = c.in_ok-warehouse_command.ensures in
    let simple = menu_is_simple _ menu in
    let found = c.in_ok-matches.ensures in
    λ asks. some_kind DisplayHelp _ (help_is_given _ _ menu asks) (found.kinds simple.0)

pub returns-in-Ok-clause-version : goal.returns-in-Ok-clause-version
returns-in-Ok-clause-version g c =
    let menu = c.in_ok-warehouse_command.ensures in
    let simple = menu_is_simple _ menu in
    let found = c.in_ok-matches.ensures in
    λ asks. some_kind DisplayVersion _ (version_is_given _ _ menu asks) (found.kinds simple.0)

pub returns-clause-refused : goal.returns-clause-refused
returns-clause-refused g c =
    let menu = c.in_ok-warehouse_command.ensures in
    let simple = menu_is_simple _ menu in
    let found = c.in_ok-matches.ensures in
    let told = rw c.in-Err.is at c.in_ok-options.ensures.mistaken in
    let wrong = words_mistaken (kind_of_mistake c.in-Err.mistake) _ (map g.W.AsStr.text c.args.words.now) menu (found.kinds simple.0)
    (λ name rows e. told name rows ((found.matches simple.1).1 ∙ e)) in
    λ o gives. absurd (mistaken_never (kind_of_mistake c.in-Err.mistake) (map g.W.AsStr.text c.args.words.now) wrong o gives)

pub returns-clause-lacking : goal.returns-clause-lacking
returns-clause-lacking g c =
    let menu = c.in_ok-warehouse_command.ensures in
    let simple = menu_is_simple _ menu in
    let found = c.in_ok-matches.ensures in
    let told = rw c.in-Err.is at c.in_ok-options.ensures.mistaken in
    let wrong = words_mistaken (kind_of_mistake c.in-Err.mistake) _ (map g.W.AsStr.text c.args.words.now) menu (found.kinds simple.0)
    (λ name rows e. told name rows ((found.matches simple.1).1 ∙ e)) in
    λ amiss. inl (c.in_ok-error-in-Err.ensures ∙ mistaken_once (kind_of_mistake c.in-Err.mistake) MissingRequiredArgument (map g.W.AsStr.text c.args.words.now) wrong (lacking (map g.W.AsStr.text c.args.words.now) amiss))

pub returns-clause-clashing : goal.returns-clause-clashing
returns-clause-clashing g c =
    let menu = c.in_ok-warehouse_command.ensures in
    let simple = menu_is_simple _ menu in
    let found = c.in_ok-matches.ensures in
    let told = rw c.in-Err.is at c.in_ok-options.ensures.mistaken in
    let wrong = words_mistaken (kind_of_mistake c.in-Err.mistake) _ (map g.W.AsStr.text c.args.words.now) menu (found.kinds simple.0)
    (λ name rows e. told name rows ((found.matches simple.1).1 ∙ e)) in
    λ amiss. inl (c.in_ok-error-in-Err.ensures ∙ mistaken_once (kind_of_mistake c.in-Err.mistake) ArgumentConflict (map g.W.AsStr.text c.args.words.now) wrong (clashing (map g.W.AsStr.text c.args.words.now) amiss))

pub returns-clause-clientless : goal.returns-clause-clientless
returns-clause-clientless g c =
    let menu = c.in_ok-warehouse_command.ensures in
    let simple = menu_is_simple _ menu in
    let found = c.in_ok-matches.ensures in
    let told = rw c.in-Err.is at c.in_ok-options.ensures.mistaken in
    let wrong = words_mistaken (kind_of_mistake c.in-Err.mistake) _ (map g.W.AsStr.text c.args.words.now) menu (found.kinds simple.0)
    (λ name rows e. told name rows ((found.matches simple.1).1 ∙ e)) in
    λ amiss. inl (c.in_ok-error-in-Err.ensures ∙ mistaken_once (kind_of_mistake c.in-Err.mistake) ValueValidation (map g.W.AsStr.text c.args.words.now) wrong (clientless (map g.W.AsStr.text c.args.words.now) amiss))

pub returns-clause-help : goal.returns-clause-help
returns-clause-help g c =
    let menu = c.in_ok-warehouse_command.ensures in
    let simple = menu_is_simple _ menu in
    let found = c.in_ok-matches.ensures in
    λ asks. absurd (some_kind DisplayHelp _ (help_is_given _ _ menu asks) (found.kinds simple.0))

pub returns-clause-version : goal.returns-clause-version
returns-clause-version g c =
    let menu = c.in_ok-warehouse_command.ensures in
    let simple = menu_is_simple _ menu in
    let found = c.in_ok-matches.ensures in
    λ asks. absurd (some_kind DisplayVersion _ (version_is_given _ _ menu asks) (found.kinds simple.0))

only_memory : (kinds : Kinds) (e : Error) → HasKind kinds e → kinds ≡ [] → kind_of e ≡ OutOfMemory
only_memory kinds e (inl memory) none = memory
only_memory kinds e (inr among) none = absurd (subst (λ ks. IsAmong (kind_of e) ks) none among)

pub returns-in_err-matches-clause-refused : goal.returns-in_err-matches-clause-refused
returns-in_err-matches-clause-refused g c =
    let menu = c.in_ok-warehouse_command.ensures in
    let simple = menu_is_simple _ menu in
    let came = err_from_is_err_and c.from_residual-in_err-matches.result c.from_residual-in_err-matches.ensures.1 in
    rw came.1 (λ o gives.
    let kind = only_memory _ c.in_err-matches.field-0.0 (c.in_err-matches.ensures.kinds simple.0) (given_is_taken _ (map g.W.AsStr.text c.args.words.now) o menu gives) in
    ap kind_of came.2 ∙ kind)

pub returns-in_err-matches-clause-help : goal.returns-in_err-matches-clause-help
returns-in_err-matches-clause-help g c =
    let menu = c.in_ok-warehouse_command.ensures in
    let simple = menu_is_simple _ menu in
    let came = err_from_is_err_and c.from_residual-in_err-matches.result c.from_residual-in_err-matches.ensures.1 in
    rw came.1 (λ asks.
    same_kind DisplayHelp c.in_err-matches.field-0.0 came.0 came.2
    (one_kind DisplayHelp _ c.in_err-matches.field-0.0 (c.in_err-matches.ensures.kinds simple.0) (help_is_given _ (map g.W.AsStr.text c.args.words.now) menu asks)))

pub returns-in_err-matches-clause-version : goal.returns-in_err-matches-clause-version
returns-in_err-matches-clause-version g c =
    let menu = c.in_ok-warehouse_command.ensures in
    let simple = menu_is_simple _ menu in
    let came = err_from_is_err_and c.from_residual-in_err-matches.result c.from_residual-in_err-matches.ensures.1 in
    rw came.1 (λ asks.
    same_kind DisplayVersion c.in_err-matches.field-0.0 came.0 came.2
    (one_kind DisplayVersion _ c.in_err-matches.field-0.0 (c.in_err-matches.ensures.kinds simple.0) (version_is_given _ (map g.W.AsStr.text c.args.words.now) menu asks)))

pub returns-in_err-matches-clause-lacking : goal.returns-in_err-matches-clause-lacking
returns-in_err-matches-clause-lacking g c =
    let menu = c.in_ok-warehouse_command.ensures in
    let simple = menu_is_simple _ menu in
    let came = err_from_is_err_and c.from_residual-in_err-matches.result c.from_residual-in_err-matches.ensures.1 in
    rw came.1 (λ amiss.
    let fine = said_is_taken _ (map g.W.AsStr.text c.args.words.now) amiss.name amiss.settings menu amiss.line amiss.each in
    same_kind MissingRequiredArgument c.in_err-matches.field-0.0 came.0 came.2
    (inr (only_memory _ c.in_err-matches.field-0.0 (c.in_err-matches.ensures.kinds simple.0) fine)))

pub returns-in_err-matches-clause-clashing : goal.returns-in_err-matches-clause-clashing
returns-in_err-matches-clause-clashing g c =
    let menu = c.in_ok-warehouse_command.ensures in
    let simple = menu_is_simple _ menu in
    let came = err_from_is_err_and c.from_residual-in_err-matches.result c.from_residual-in_err-matches.ensures.1 in
    rw came.1 (λ amiss.
    let fine = said_is_taken _ (map g.W.AsStr.text c.args.words.now) amiss.name amiss.settings menu amiss.line amiss.each in
    same_kind ArgumentConflict c.in_err-matches.field-0.0 came.0 came.2
    (inr (only_memory _ c.in_err-matches.field-0.0 (c.in_err-matches.ensures.kinds simple.0) fine)))

pub returns-in_err-matches-clause-clientless : goal.returns-in_err-matches-clause-clientless
returns-in_err-matches-clause-clientless g c =
    let menu = c.in_ok-warehouse_command.ensures in
    let simple = menu_is_simple _ menu in
    let came = err_from_is_err_and c.from_residual-in_err-matches.result c.from_residual-in_err-matches.ensures.1 in
    rw came.1 (λ amiss.
    let fine = said_is_taken _ (map g.W.AsStr.text c.args.words.now) amiss.name amiss.settings menu amiss.line amiss.each in
    same_kind ValueValidation c.in_err-matches.field-0.0 came.0 came.2
    (inr (only_memory _ c.in_err-matches.field-0.0 (c.in_err-matches.ensures.kinds simple.0) fine)))
