-- Which bytes are accepted as a page, and why others are refused.
use Rattle.std.specs.Prelude.{ℕ, ◌+◌, ◌≡◌, true, false, if◌then◌else◌, List, [], ◌∷◌, ◌++◌, length, map, Some, None, nat_eq}
use Rattle.std.specs.List.{starts_with}
use Rattle.std.specs.Str.{IsUtf8}
use Rattle.dom_tree.specs.Node.{Nodes}
use Rattle.js_core.specs.Text.{Text, utf16_of}
use Rattle.js_core.specs.Tree as tree
use Rattle.js_core.specs.declared.token.Token.{Token}
use Rattle.js_grammar.specs.Scripts.{ScriptOf, height_limit}
use Rattle.js_lexer.specs.Directives.{IsStrict}
use Rattle.js_lexer.specs.Tokens.{Tokens}
use Rattle.early_rules.specs.EarlyRules.{early_rule}
pub use Rattle.page_check.specs.Rules.{Page, is_too_deep, keeps_form}
use Rattle.js_core.specs.declared.memory.Failure.{Failure}
use Rattle.js_core.specs.declared.memory.Failure.TheVariants.{Cause, OutOfMemory}
use Rattle.page_check.specs.declared.page.Kind.{Kind}
use Rattle.page_check.specs.declared.page.Kind.TheVariants.{Plain, Form}
use Rattle.page_check.specs.declared.page.Refusal.{Refusal}
use Rattle.page_check.specs.declared.page.Refusal.TheVariants.{NotUtf8, NotPage, NotTokens, NotScript, NotStrict, Early, TooDeep, ReservedName, NotForm}
use Rattle.page_reader.specs.declared.page.Place.{Place}
use Rattle.page_reader.specs.declared.page.ScriptText.{ScriptText}
use Rattle.page_reader.specs.Bytes.{IsPageOf}
use Rattle.page_reader.specs.Replacing.{form_mark, places_of}
use Rattle.page_reader.specs.Text.{mark_size}

-- ---- scripts

-- the texts of scripts
abbrev pub texts_of : List ScriptText → List Text
texts_of scripts = map (λ s. s.text) scripts

-- the text has these tokens, and they this tree
pub record IsRead (text : List ℕ) (tokens : List Token) (script : tree.Stmts) : Type 0 where
  pub lexed : Tokens text tokens
  pub parsed : ScriptOf height_limit tokens script

pub record IsStrictScript (text : List ℕ) (script : tree.Stmts) : Type 0 where
  pub tokens : List Token
  pub read : IsRead text tokens script
  pub strict : IsStrict tokens

-- such a script that breaks no early rule
pub record IsOrderly (text : List ℕ) (script : tree.Stmts) : Type 0 where
  pub strict : IsStrictScript text script
  pub orderly : early_rule script ≡ None

-- such a script that is not too high
pub record IsLow (kind : Kind) (text : List ℕ) (script : tree.Stmts) : Type 0 where
  pub orderly : IsOrderly text script
  pub low : is_too_deep kind script ≡ false

-- the text is that of a script of a page of this kind
pub record IsPageScript (kind : Kind) (text : List ℕ) (script : tree.Stmts) : Type 0 where
  pub low : IsLow kind text script
  pub formed : keeps_form kind script ≡ true

-- as the k-th script of a page of this kind the text is refused for this cause, and for none before it; two causes are of no script
abbrev pub IsScriptRefusal : Kind → ℕ → List ℕ → Refusal → Type 0
IsScriptRefusal kind k text NotUtf8 = ⊥
IsScriptRefusal kind k text NotPage = ⊥
IsScriptRefusal kind k text (NotTokens n) = (n ≡ k) × ((tokens : List Token) → ¬ Tokens text tokens)
IsScriptRefusal kind k text (NotScript n) =
    (n ≡ k) × (tokens : List Token) × Tokens text tokens × ((script : tree.Stmts) → ¬ ScriptOf height_limit tokens script)
IsScriptRefusal kind k text (NotStrict n) = (n ≡ k) × (tokens : List Token) × (script : tree.Stmts) × IsRead text tokens script × ¬ IsStrict tokens
IsScriptRefusal kind k text (Early n rule) = (n ≡ k) × (script : tree.Stmts) × IsStrictScript text script × (early_rule script ≡ Some rule)
IsScriptRefusal kind k text (TooDeep n) = (n ≡ k) × (script : tree.Stmts) × IsOrderly text script × (is_too_deep kind script ≡ true)
IsScriptRefusal kind k text (ReservedName n) = (n ≡ k) × (script : tree.Stmts) × (kind ≡ Plain) × IsLow kind text script × (keeps_form kind script ≡ false)
IsScriptRefusal kind k text (NotForm n) = (n ≡ k) × (script : tree.Stmts) × (kind ≡ Form) × IsLow kind text script × (keeps_form kind script ≡ false)

-- want of memory is free
abbrev pub IsNotScript : Kind → ℕ → List ℕ → Failure Refusal → Type 0
IsNotScript kind k text (Cause refusal) = IsScriptRefusal kind k text refusal
IsNotScript kind k text OutOfMemory = Unit {0}

-- each text is that of a script of such a page, with the tree at the same place of the list
abbrev pub ArePageScripts : Kind → List (List ℕ) → List tree.Stmts → Type 0
ArePageScripts kind [] [] = Unit {0}
ArePageScripts kind (text ∷ texts) (script ∷ scripts) = IsPageScript kind text script × ArePageScripts kind texts scripts
ArePageScripts kind texts scripts = ⊥

-- of texts, the foremost of which is the k-th script of a page, one is refused for this cause, and those before it are scripts
pub record IsRefusedFrom (kind : Kind) (k : ℕ) (texts : List (List ℕ)) (refusal : Refusal) : Type 0 where
  pub before : List (List ℕ)
  pub scripts : List tree.Stmts
  pub read : ArePageScripts kind before scripts
  pub text : List ℕ
  pub behind : List (List ℕ)
  pub split : texts ≡ before ++ (text ∷ behind)
  pub off : IsScriptRefusal kind (length before + k) text refusal

-- want of memory is free
abbrev pub AreNotScripts : Kind → List (List ℕ) → Failure Refusal → Type 0
AreNotScripts kind texts (Cause refusal) = IsRefusedFrom kind 1 texts refusal
AreNotScripts kind texts OutOfMemory = Unit {0}

-- ---- pages

-- a page is a form page where its first bytes are the mark of form pages
abbrev pub kind_of : List ℕ → Kind
kind_of bytes = if starts_with nat_eq bytes form_mark then Form else Plain

-- the bytes are accepted as this page: they are a page with these nodes, of this kind, and the texts of its scripts are those of
-- scripts of such a page, with these trees
pub record IsAccepted (bytes : List ℕ) (page : Page) : Type 0 where
  pub texts : List ScriptText
  pub is_page : IsPageOf bytes page.nodes texts
  pub of_kind : page.kind ≡ kind_of bytes
  pub read : ArePageScripts page.kind (texts_of texts) page.scripts

-- a page, how many bytes a byte order mark has before it, and where the texts of its scripts stand
pub record AcceptedPage : Type 0 where
  pub page : Page
  pub start : ℕ
  pub places : List Place

-- the bytes are accepted as this page, whose parts stand so
pub record IsAcceptedAt (bytes : List ℕ) (found : AcceptedPage) : Type 0 where
  pub accepted : IsAccepted bytes found.page
  pub start : found.start ≡ mark_size (utf16_of bytes)
  pub placed : found.places ≡ places_of accepted.texts

-- the bytes are a page but for one of its scripts
pub record IsRefusedScript (bytes : List ℕ) (refusal : Refusal) : Type 0 where
  pub nodes : Nodes
  pub texts : List ScriptText
  pub is_page : IsPageOf bytes nodes texts
  pub off : IsRefusedFrom (kind_of bytes) 1 (texts_of texts) refusal

-- the bytes are refused for this cause, and for none before it
abbrev pub IsRefused : List ℕ → Refusal → Type 0
IsRefused bytes NotUtf8 = ¬ IsUtf8 bytes
IsRefused bytes NotPage = IsUtf8 bytes × ((nodes : Nodes) (texts : List ScriptText) → IsPageOf bytes nodes texts → ⊥)
IsRefused bytes refusal = IsRefusedScript bytes refusal

-- want of memory is free
abbrev pub IsNotAccepted : List ℕ → Failure Refusal → Type 0
IsNotAccepted bytes (Cause refusal) = IsRefused bytes refusal
IsNotAccepted bytes OutOfMemory = Unit {0}
