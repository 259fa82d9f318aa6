-- The kinds of strings of characters.
pub data StringKind : Type 0 where
  utf8 : StringKind
  printable : StringKind
  teletex : StringKind
  ia5 : StringKind
  universal : StringKind
  bmp : StringKind
  deriving Discrete as StringKind-discrete
