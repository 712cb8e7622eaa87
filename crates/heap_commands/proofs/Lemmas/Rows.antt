-- The rows of a list of objects.
use Rattle.std.proofs.Common.{◌≡◌, ℕ, ◌+◌, ◌<◌, ◌≤◌, ◌^◌, Bool, true, false, List, [], ◌∷◌, ◌++◌, length, take, cond, eqb, codes, refl, sym, ◌∙◌, ap, ap₂, subst, get_or, arith}
use Rattle.std.specs.Prelude.{decimal, filter}
use Rattle.std.specs.Str.Parse.{AllDigits}
use Rattle.std.proofs.lemmas.Bool.Decides.{nat_tests}
use Rattle.std.proofs.lemmas.Fmt.{decimal_is_IsNumeral, length-decimal-le}
use Rattle.std.proofs.lemmas.List.{flat_map_more, length-append, length_push, take_all, take_more}
use Rattle.std.proofs.lemmas.List.Elements.{filter-append}
use Rattle.std.proofs.lemmas.List.Sums.{length-filter}
use Rattle.std.proofs.lemmas.Str.Parse.{digit_from_value}
use Rattle.heap_dump.specs.ClassNames.{id_text, name_of, newlines}
use Rattle.heap_dump.specs.declared.listing.class_names.ClassNames.{ClassNames}
use Rattle.heap_dump.specs.declared.listing.ListedObject.{ListedObject}
use Rattle.heap_commands.specs.Histogram.{bytes_of}
use Rattle.heap_commands.specs.ObjectList.{HasRows, list_text, object_line, state_of}

joined : (xs ys : List ℕ) → newlines (xs ++ ys) ≡ newlines xs + newlines ys
joined xs ys =
    sym (length-filter (λ byte. eqb byte 10) (xs ++ ys)) ∙ ap length (filter-append (λ byte. eqb byte 10) xs ys)
    ∙ length-append (filter (λ byte. eqb byte 10) xs) (filter (λ byte. eqb byte 10) ys)
    ∙ ap₂ (λ m n. m + n) (length-filter (λ byte. eqb byte 10) xs) (length-filter (λ byte. eqb byte 10) ys)

digits_in_line : (ds : List ℕ) → AllDigits 10 ds → newlines ds ≡ 0
digits_in_line [] all = refl
digits_in_line (d ∷ ds) all =
    joined (d ∷ []) ds ∙ ap₂ (λ m n. m + n) (one (digit_from_value d all.0)) (digits_in_line ds all.1)
  where
    one : (48 ≤ d) × (d ≤ 57) → newlines (d ∷ []) ≡ 0
    one h =
        let other : eqb d 10 ≡ false = grind (arith, nat_tests) in
        sym (length-filter (λ byte. eqb byte 10) (d ∷ [])) ∙ ap (λ b. length (cond b (d ∷ []) [])) other

number_in_line : (n : ℕ) → n < 2 ^ 64 → newlines (decimal n) ≡ 0
number_in_line n small = digits_in_line (decimal n) (decimal_is_IsNumeral n small).0.1

number_short : (n : ℕ) → n < 2 ^ 64 → length (decimal n) ≤ 20
number_short n small = length-decimal-le 20 n (omega arith) (omega arith) small

state_short : (is_live : Bool) → length (state_of is_live) ≤ 4
state_short true = omega arith
state_short false = omega arith

state_in_line : (is_live : Bool) → newlines (state_of is_live) ≡ 0
state_in_line true = refl
state_in_line false = refl

-- the parts of a line
row_of : (address id name bytes state : List ℕ) → length address ≤ 20 → length id ≤ 18 → length name ≤ 2020 → length bytes ≤ 20 → length state ≤ 4
    → newlines address ≡ 0 → newlines id ≡ 0 → newlines name ≡ 0 → newlines bytes ≡ 0 → newlines state ≡ 0
    → HasRows ((address ++ codes " ") ++ (id ++ (codes " " ++ (name ++ (codes " " ++ (bytes ++ (codes " " ++ (state ++ codes "\n")))))))) 1
row_of address id name bytes state a i n b s in_a in_i in_n in_b in_s = record {
  short = omega (
    arith,
    a,
    i,
    n,
    b,
    s,
    length-append (address ++ codes " ") (id ++ after_id),
    length-append address (codes " "),
    length-append id after_id,
    length-append (codes " ") (name ++ after_name),
    length-append name after_name,
    length-append (codes " ") (bytes ++ after_bytes),
    length-append bytes after_bytes,
    length-append (codes " ") (state ++ codes "\n"),
    length-append state (codes "\n"),
  );
  rows = omega (
    arith,
    in_a,
    in_i,
    in_n,
    in_b,
    in_s,
    joined (address ++ codes " ") (id ++ after_id),
    joined address (codes " "),
    joined id after_id,
    joined (codes " ") (name ++ after_name),
    joined name after_name,
    joined (codes " ") (bytes ++ after_bytes),
    joined bytes after_bytes,
    joined (codes " ") (state ++ codes "\n"),
    joined state (codes "\n"),
  );
}
  where
    after_bytes : List ℕ
    after_bytes = codes " " ++ (state ++ codes "\n")

    after_name : List ℕ
    after_name = codes " " ++ (bytes ++ after_bytes)

    after_id : List ℕ
    after_id = codes " " ++ (name ++ after_name)

pub is_row : (names : ClassNames) (object : ListedObject) → object.address < 2 ^ 64 → length (id_text object.id) ≤ 18 → newlines (id_text object.id) ≡ 0
    → length (name_of names object.class) ≤ 2020 → newlines (name_of names object.class) ≡ 0 → HasRows (object_line names object) 1
is_row names object small id_short id_line short in_line =
    let bytes : bytes_of object.words < 2 ^ 64 = omega arith in
    row_of (decimal object.address) (id_text object.id) (name_of names object.class) (decimal (bytes_of object.words)) (state_of object.is_live)
    (number_short object.address small) id_short short (number_short (bytes_of object.words) bytes) (state_short object.is_live)
    (number_in_line object.address small) id_line in_line (number_in_line (bytes_of object.words) bytes) (state_in_line object.is_live)

pub no_rows : HasRows [] 0
no_rows = record { rows = refl; short = omega arith }

pub more_rows : (xs ys : List ℕ) (m n : ℕ) → HasRows xs m → HasRows ys n → HasRows (xs ++ ys) (m + n)
more_rows xs ys m n h k = record {
  rows = joined xs ys ∙ ap₂ (λ a b. a + b) h.rows k.rows;
  short = omega (arith, h.short, k.short, length-append xs ys);
}

module _ (names : ClassNames) where
  -- a row for each of these objects
  abbrev pub AreRows : List ListedObject → Type 0
  AreRows objects = HasRows (list_text names objects) (length objects)

  -- one object more
  pub object_more : (objects : List ListedObject) (i : ℕ) (object : ListedObject) → i < length objects → object ≡ get_or objects i object
      → AreRows (take i objects) → HasRows (object_line names object) 1 → AreRows (take (i + 1) objects)
  object_more objects i object below is h row =
      let before = take i objects in
      let longer = more_rows (list_text names before) (object_line names object) (length before) 1 h row in
      let counted = subst (λ n. HasRows (list_text names before ++ object_line names object) n) (sym (length_push before object)) longer in
      let pushed = subst (λ t. HasRows t (length (before ++ object ∷ []))) (flat_map_more (object_line names) [] before object) counted in
      subst (λ xs. AreRows xs) (sym (take_more objects i object below)) (subst (λ o. AreRows (before ++ o ∷ [])) is pushed)

  pub object_all : (objects : List ListedObject) (i : ℕ) → length objects ≤ i → AreRows (take i objects) → AreRows objects
  object_all objects i past h = subst (λ xs. AreRows xs) (take_all i objects past) h
