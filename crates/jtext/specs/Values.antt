-- Values (RFC 8259, sections 2 to 5).
use Rattle.std.specs.Prelude.{◌≡◌, ℕ, zero, suc, ◌⊎◌, Bool, true, false, List, [], ◌∷◌, ◌++◌}
use Rattle.std.specs.List.{AllByRecursion}
use Rattle.jtext.specs.Numbers.{IsNumber}
use Rattle.jtext.specs.Characters.{Char, AreChars, chars_text}

-- A value as it is written, with the white space between its parts. An empty array or object has the white space
-- inside it. Each element has what comes before and after it. Each member has what comes before the key, after
-- the key, before the value and after it.
mutual
  pub data Json : Type 0 where
    null : Json
    truth : Bool → Json
    numeral : List ℕ → Json
    quoted : List Char → Json
    array : List ℕ → Elements → Json
    object : List ℕ → Members → Json

  pub data Elements : Type 0 where
    no_element : Elements
    element : List ℕ → Json → List ℕ → Elements → Elements

  pub data Members : Type 0 where
    no_member : Members
    member : List ℕ → List Char → List ℕ → List ℕ → Json → List ℕ → Members → Members

abbrev pub truth_text : Bool → List ℕ
truth_text true = 116 ∷ 114 ∷ 117 ∷ 101 ∷ []
truth_text false = 102 ∷ 97 ∷ 108 ∷ 115 ∷ 101 ∷ []

-- characters in quotation marks
abbrev pub quoted_text : List Char → List ℕ
quoted_text chars = 34 ∷ (chars_text chars ++ 34 ∷ [])

-- the text of a value; of the first element or member and what follows; of those that follow a comma
abbrev mutual
  pub spelling : Json → List ℕ
  spelling null = 110 ∷ 117 ∷ 108 ∷ 108 ∷ []
  spelling (truth is) = truth_text is
  spelling (numeral text) = text
  spelling (quoted chars) = quoted_text chars
  spelling (array blank elements) = 91 ∷ (blank ++ (elements_text elements ++ 93 ∷ []))
  spelling (object blank members) = 123 ∷ (blank ++ (members_text members ++ 125 ∷ []))

  pub elements_text : Elements → List ℕ
  elements_text no_element = []
  elements_text (element before value after rest) = before ++ (spelling value ++ (after ++ elements_behind rest))

  pub elements_behind : Elements → List ℕ
  elements_behind no_element = []
  elements_behind (element before value after rest) =
      44 ∷ (before ++ (spelling value ++ (after ++ elements_behind rest)))

  pub members_text : Members → List ℕ
  members_text no_member = []
  members_text (member before key behind ahead value after rest) =
      before ++ (quoted_text key ++ (behind ++ 58 ∷ (ahead ++ (spelling value ++ (after ++ members_behind rest)))))

  pub members_behind : Members → List ℕ
  members_behind no_member = []
  members_behind (member before key behind ahead value after rest) =
      44 ∷ (before ++ (quoted_text key ++ (behind ++ 58
      ∷ (ahead ++ (spelling value ++ (after ++ members_behind rest))))))

-- space, tab, line feed and carriage return
abbrev pub IsBlank : ℕ → Type 0
IsBlank byte = (byte ≡ 32) ⊎ (byte ≡ 9) ⊎ (byte ≡ 10) ⊎ (byte ≡ 13)

abbrev pub AreBlank : List ℕ → Type 0
AreBlank text = AllByRecursion IsBlank text

-- White space is between the brackets of an empty array, and belongs to an element where there is one.
abbrev pub IsArrayBlank : List ℕ → Elements → Type 0
IsArrayBlank blank no_element = AreBlank blank
IsArrayBlank blank (element before value after rest) = blank ≡ []

abbrev pub IsObjectBlank : List ℕ → Members → Type 0
IsObjectBlank blank no_member = AreBlank blank
IsObjectBlank blank (member before key behind ahead value after rest) = blank ≡ []

-- the parts are what the grammar wants of them, and arrays and objects nest at most so deep
abbrev mutual
  pub IsValue : ℕ → Json → Type 0
  IsValue depth null = Unit {0}
  IsValue depth (truth is) = Unit {0}
  IsValue depth (numeral text) = IsNumber text
  IsValue depth (quoted chars) = AreChars chars
  IsValue zero (array blank elements) = ⊥
  IsValue (suc depth) (array blank elements) = IsArrayBlank blank elements × AreElements depth elements
  IsValue zero (object blank members) = ⊥
  IsValue (suc depth) (object blank members) = IsObjectBlank blank members × AreMembers depth members

  pub AreElements : ℕ → Elements → Type 0
  AreElements depth no_element = Unit {0}
  AreElements depth (element before value after rest) =
      AreBlank before × IsValue depth value × AreBlank after × AreElements depth rest

  pub AreMembers : ℕ → Members → Type 0
  AreMembers depth no_member = Unit {0}
  AreMembers depth (member before key behind ahead value after rest) =
      AreBlank before × AreChars key × AreBlank behind × AreBlank ahead × IsValue depth value × AreBlank after
      × AreMembers depth rest
