-- The texts of the value that a JSON text is are given by bytes and no longer than it, where it is given by bytes.
use Rattle.std.proofs.Common.{ℕ, zero, suc, List, [], ◌∷◌, length, Option, Some, None, option_and_then, Ordering, Less, Equal, Greater}
use Rattle.std.specs.Prelude.{option_map}
use Rattle.std.specs.Ordering.{match_ordering, nat_cmp}
use Rattle.std.specs.Cmp.Lexicographic.{slice_cmp}
use Rattle.json.specs.Json as json
use Rattle.json.specs.Json.{Parse, after_end_array, if_last, items_step, members_step, parse_map, read_key, value_with}
use Rattle.json.specs.Lex.{tokens}
use Rattle.json.specs.Token as token
use Rattle.json.specs.Token.{Token}
use Rattle.serde_json.specs.Data.{Data, Items, Members, Num, array, boolean, item, member, no_items, no_members, null, number, object, put, string}
use Rattle.serde_json.specs.Find.{as_array, as_str, get, get_member}
use Rattle.serde_json.specs.Read.{max_depth, number_of, of_items, of_json, of_members, read}
use Rattle.literal_pages.proofs.JsonTokens.{IsShortText, TokensBytes, tokens_bytes}

-- ---- values of the grammar

abbrev mutual
  JsonBytes : json.Json → Type 0
  JsonBytes (json.string s) = IsShortText s
  JsonBytes (json.array js) = JsonItemsBytes js
  JsonBytes (json.object ms) = JsonMembersBytes ms
  JsonBytes j = Unit {0}

  JsonItemsBytes : json.Items → Type 0
  JsonItemsBytes json.no_items = Unit {0}
  JsonItemsBytes (json.item j js) = JsonBytes j × JsonItemsBytes js

  JsonMembersBytes : json.Members → Type 0
  JsonMembersBytes json.no_members = Unit {0}
  JsonMembersBytes (json.member k j ms) = JsonBytes j × JsonMembersBytes ms

-- what was read, and the tokens behind it
abbrev Parsed : {A : Type 0} → (A → Type 0) → Option (A × List Token) → Type 0
Parsed P None = Unit {0}
Parsed P (Some r) = P r.0 × TokensBytes r.1

abbrev Parses : {A : Type 0} → (A → Type 0) → Parse A → Type 0
Parses P f = (ts : List Token) → TokensBytes ts → Parsed P (f ts)

mapped : {A B : Type 0} (P : A → Type 0) (Q : B → Type 0) (f : A → B) (o : Option (A × List Token)) → ((a : A) → P a → Q (f a)) → Parsed P o → Parsed Q (parse_map f o)
mapped P Q f None h k = tt
mapped P Q f (Some r) h k = (h r.0 k.0, k.1)

chained : {A B : Type 0} (P : A → Type 0) (Q : B → Type 0) (f : A × List Token → Option (B × List Token)) (o : Option (A × List Token)) → Parsed P o
    → ((r : A × List Token) → P r.0 → TokensBytes r.1 → Parsed Q (f r)) → Parsed Q (option_and_then f o)
chained P Q f None h k = tt
chained P Q f (Some r) h k = k r h.0 h.1

abbrev LeftBytes : Option (List Token) → Type 0
LeftBytes None = Unit {0}
LeftBytes (Some ts) = TokensBytes ts

after_array : (ts : List Token) → TokensBytes ts → LeftBytes (after_end_array ts)
after_array [] h = tt
after_array (token.end_array ∷ ts) h = h.1
after_array (token.begin_object ∷ ts) h = tt
after_array (token.end_object ∷ ts) h = tt
after_array (token.begin_array ∷ ts) h = tt
after_array (token.key s ∷ ts) h = tt
after_array (token.string s ∷ ts) h = tt
after_array (token.number s ∷ ts) h = tt
after_array (token.boolean b ∷ ts) h = tt
after_array (token.null ∷ ts) h = tt
after_array (token.bad ∷ ts) h = tt

abbrev AnyKey : Option (List ℕ) → Type 0
AnyKey k = Unit {0}

key_read : (ts : List Token) → TokensBytes ts → Parsed AnyKey (read_key ts)
key_read [] h = tt
key_read (token.end_object ∷ ts) h = (tt, h.1)
key_read (token.key s ∷ ts) h = (tt, h.1)
key_read (token.begin_object ∷ ts) h = tt
key_read (token.begin_array ∷ ts) h = tt
key_read (token.end_array ∷ ts) h = tt
key_read (token.string s ∷ ts) h = tt
key_read (token.number s ∷ ts) h = tt
key_read (token.boolean b ∷ ts) h = tt
key_read (token.null ∷ ts) h = tt
key_read (token.bad ∷ ts) h = tt

module _ (value : Parse json.Json) (values : Parses JsonBytes value) where
  items_parse : (n : ℕ) → Parses JsonItemsBytes (json.items value n)
  unfolding json.items
  items_parse zero ts h = tt
  items_parse (suc n) ts h = by (items_parse n) (after_end_array ts) (after_array ts h)
    where
      by : Parses JsonItemsBytes (json.items value n) → (o : Option (List Token)) → LeftBytes o → Parsed JsonItemsBytes (items_step value (json.items value n) ts o)
      by more (Some rest) k = (tt, k)
      by more None k =
          chained JsonBytes JsonItemsBytes (λ p. parse_map (json.item p.0) (json.items value n p.1)) (value ts) (values ts h)
          (λ r a b. mapped JsonItemsBytes JsonItemsBytes (json.item r.0) (json.items value n r.1) (λ js i. (a, i)) (more r.1 b))

  members_parse : (n : ℕ) → Parses JsonMembersBytes (json.members value n)
  unfolding json.members
  members_parse zero ts h = tt
  members_parse (suc n) ts h =
      chained AnyKey JsonMembersBytes (λ p. members_step value (json.members value n) p.0 p.1) (read_key ts) (key_read ts h) (λ r a b. by (members_parse n) r.0 r.1 b)
    where
      by : Parses JsonMembersBytes (json.members value n) → (k : Option (List ℕ)) (us : List Token) → TokensBytes us → Parsed JsonMembersBytes (members_step value (json.members value n) k us)
      by more None us b = (tt, b)
      by more (Some k) us b =
          chained JsonBytes JsonMembersBytes (λ p. parse_map (json.member k p.0) (json.members value n p.1)) (value us) (values us b)
          (λ r a c. mapped JsonMembersBytes JsonMembersBytes (json.member k r.0) (json.members value n r.1) (λ ms i. (a, i)) (more r.1 c))

one_parses : (a : Parse json.Items) (o : Parse json.Members) → Parses JsonItemsBytes a → Parses JsonMembersBytes o → Parses JsonBytes (value_with a o)
one_parses a o f g [] h = tt
one_parses a o f g (token.begin_object ∷ ts) h = mapped JsonMembersBytes JsonBytes json.object (o ts) (λ ms i. i) (g ts h.1)
one_parses a o f g (token.begin_array ∷ ts) h = mapped JsonItemsBytes JsonBytes json.array (a ts) (λ js i. i) (f ts h.1)
one_parses a o f g (token.string s ∷ ts) h = h
one_parses a o f g (token.number s ∷ ts) h = h
one_parses a o f g (token.boolean b ∷ ts) h = h
one_parses a o f g (token.null ∷ ts) h = h
one_parses a o f g (token.end_object ∷ ts) h = tt
one_parses a o f g (token.end_array ∷ ts) h = tt
one_parses a o f g (token.key s ∷ ts) h = tt
one_parses a o f g (token.bad ∷ ts) h = tt

value_parses : (depth : ℕ) → Parses JsonBytes (json.value depth)
unfolding json.value
value_parses zero ts h = one_parses (λ us. None) (λ us. None) (λ us i. tt) (λ us i. tt) ts h
value_parses (suc depth) ts h =
    one_parses (λ us. json.items (json.value depth) (length us) us) (λ us. json.members (json.value depth) (length us) us)
    (λ us i. items_parse (json.value depth) (value_parses depth) (length us) us i) (λ us i. members_parse (json.value depth) (value_parses depth) (length us) us i) ts h

-- ---- values with numbers

abbrev mutual
  pub DataBytes : Data → Type 0
  DataBytes (string s) = IsShortText s
  DataBytes (array ds) = ItemsBytes ds
  DataBytes (object ms) = MembersBytes ms
  DataBytes d = Unit {0}

  pub ItemsBytes : Items → Type 0
  ItemsBytes no_items = Unit {0}
  ItemsBytes (item d ds) = DataBytes d × ItemsBytes ds

  pub MembersBytes : Members → Type 0
  MembersBytes no_members = Unit {0}
  MembersBytes (member k d ms) = DataBytes d × MembersBytes ms

-- what a search found
abbrev pub Found : {A : Type 0} → (A → Type 0) → Option A → Type 0
Found P None = Unit {0}
Found P (Some a) = P a

pub found_map : {A B : Type 0} (P : A → Type 0) (Q : B → Type 0) (f : A → B) (o : Option A) → Found P o → ((a : A) → P a → Q (f a)) → Found Q (option_map f o)
found_map P Q f None h k = tt
found_map P Q f (Some a) h k = k a h

pub found_then : {A B : Type 0} (P : A → Type 0) (Q : B → Type 0) (f : A → Option B) (o : Option A) → Found P o → ((a : A) → P a → Found Q (f a)) → Found Q (option_and_then f o)
found_then P Q f None h k = tt
found_then P Q f (Some a) h k = k a h

put_bytes : (k : List ℕ) (d : Data) (ms : Members) → DataBytes d → MembersBytes ms → MembersBytes (put k d ms)
put_bytes k d no_members h g = (h, tt)
put_bytes k d (member l e ms) h g = by (slice_cmp nat_cmp k l) (put_bytes k d ms h g.1)
  where
    by : (o : Ordering) → MembersBytes (put k d ms) → MembersBytes (match_ordering o (member k d (member l e ms)) (member l d ms) (member l e (put k d ms)))
    by Less later = (h, g)
    by Equal later = (h, g.1)
    by Greater later = (g.0, later)

any_number : (o : Option Num) → Found DataBytes (option_map number o)
any_number None = tt
any_number (Some n) = tt

mutual
  json_data : (j : json.Json) → JsonBytes j → Found DataBytes (of_json j)
  json_data json.null h = tt
  json_data (json.boolean b) h = tt
  json_data (json.number s) h = any_number (number_of s)
  json_data (json.string s) h = h
  json_data (json.array js) h = found_map ItemsBytes DataBytes array (of_items js) (json_items js h) (λ ds i. i)
  json_data (json.object ms) h = found_map MembersBytes DataBytes object (of_members ms no_members) (json_members ms no_members h tt) (λ ds i. i)

  json_items : (js : json.Items) → JsonItemsBytes js → Found ItemsBytes (of_items js)
  json_items json.no_items h = tt
  json_items (json.item j js) h =
      found_then DataBytes ItemsBytes (λ d. option_map (item d) (of_items js)) (of_json j) (json_data j h.0)
      (λ d a. found_map ItemsBytes ItemsBytes (item d) (of_items js) (json_items js h.1) (λ ds i. (a, i)))

  json_members : (ms : json.Members) (found : Members) → JsonMembersBytes ms → MembersBytes found → Found MembersBytes (of_members ms found)
  json_members json.no_members found h g = g
  json_members (json.member k j ms) found h g =
      found_then DataBytes MembersBytes (λ d. of_members ms (put k d found)) (of_json j) (json_data j h.0)
      (λ d a. json_members ms (put k d found) h.1 (put_bytes k d found a g))

last_bytes : (j : json.Json) (ts : List Token) → JsonBytes j → Found JsonBytes (if_last j ts)
last_bytes j [] h = h
last_bytes j (t ∷ ts) h = tt

pub read_bytes : (text : List ℕ) → IsShortText text → Found DataBytes (read text)
read_bytes text h =
    found_then JsonBytes DataBytes of_json (option_and_then (λ p. if_last p.0 p.1) (json.value max_depth (tokens text)))
    (by (json.value max_depth (tokens text)) (value_parses max_depth (tokens text) (tokens_bytes text h))) json_data
  where
    by : (o : Option (json.Json × List Token)) → Parsed JsonBytes o → Found JsonBytes (option_and_then (λ p. if_last p.0 p.1) o)
    by None k = tt
    by (Some r) k = last_bytes r.0 r.1 k.0

-- ---- what is found in them

member_bytes : (k : List ℕ) (ms : Members) → MembersBytes ms → Found DataBytes (get_member k ms)
member_bytes k no_members h = tt
member_bytes k (member l e ms) h = by (slice_cmp nat_cmp k l) (member_bytes k ms h.1)
  where
    by : (o : Ordering) → Found DataBytes (get_member k ms) → Found DataBytes (match_ordering o (get_member k ms) (Some e) (get_member k ms))
    by Less later = later
    by Equal later = h.0
    by Greater later = later

pub got_bytes : (k : List ℕ) (d : Data) → DataBytes d → Found DataBytes (get k d)
got_bytes k (object ms) h = member_bytes k ms h
got_bytes k null h = tt
got_bytes k (boolean b) h = tt
got_bytes k (number n) h = tt
got_bytes k (string s) h = tt
got_bytes k (array ds) h = tt

pub str_bytes : (d : Data) → DataBytes d → Found IsShortText (as_str d)
str_bytes (string s) h = h
str_bytes null h = tt
str_bytes (boolean b) h = tt
str_bytes (number n) h = tt
str_bytes (array ds) h = tt
str_bytes (object ms) h = tt

pub array_bytes : (d : Data) → DataBytes d → Found ItemsBytes (as_array d)
array_bytes (array ds) h = h
array_bytes null h = tt
array_bytes (boolean b) h = tt
array_bytes (number n) h = tt
array_bytes (string s) h = tt
array_bytes (object ms) h = tt
