-- The types of certificates and of lists of revoked ones (RFC 5280, appendix A), of certification requests (RFC 2986,
-- appendix A) and of private keys (RFC 5958, appendix A): which trees are of each, and what its fields are. A field
-- with a DEFAULT may also stand there with that value, which DER forbids.
use Rattle.std.specs.Prelude.{◌||◌, ℕ, Bool, true, Option}
use Rattle.asn1_headers.specs.declared.tags.TheConstants.{BIT_STRING, BOOLEAN, GENERALIZED_TIME, INTEGER, OBJECT_IDENTIFIER, OCTET_STRING, UTC_TIME}
use Rattle.asn1_blocks.specs.Tree.{Tree, Trees}
use Rattle.asn1_certificate.specs.Sequences.{Found, field, is_bits, is_found, is_leaf, no_more, optional, sequence, sequence_of, sequence_of_some, set_of_some, tagged, tagged_set_of}

-- ANY
abbrev pub is_any : Tree ℕ → Bool
is_any b = true

-- AlgorithmIdentifier ::= SEQUENCE {
--     algorithm   OBJECT IDENTIFIER,
--     parameters  ANY DEFINED BY algorithm OPTIONAL }
abbrev pub algorithm_identifier : Tree ℕ → Option Found
algorithm_identifier = sequence
    (field (is_leaf OBJECT_IDENTIFIER)
    (optional is_any
    no_more))

abbrev pub is_algorithm_identifier : Tree ℕ → Bool
is_algorithm_identifier b = is_found (algorithm_identifier b)

-- SubjectPublicKeyInfo ::= SEQUENCE {
--     algorithm         AlgorithmIdentifier,
--     subjectPublicKey  BIT STRING }
abbrev pub subject_public_key_info : Tree ℕ → Option Found
subject_public_key_info = sequence
    (field is_algorithm_identifier
    (field (is_leaf BIT_STRING)
    no_more))

abbrev pub is_subject_public_key_info : Tree ℕ → Bool
is_subject_public_key_info b = is_found (subject_public_key_info b)

-- AttributeTypeAndValue ::= SEQUENCE {
--     type   AttributeType,      -- OBJECT IDENTIFIER
--     value  AttributeValue }    -- ANY DEFINED BY type
abbrev pub attribute_type_and_value : Tree ℕ → Option Found
attribute_type_and_value = sequence
    (field (is_leaf OBJECT_IDENTIFIER)
    (field is_any
    no_more))

abbrev pub is_attribute_type_and_value : Tree ℕ → Bool
is_attribute_type_and_value b = is_found (attribute_type_and_value b)

-- RelativeDistinguishedName ::= SET SIZE (1..MAX) OF AttributeTypeAndValue
abbrev pub is_relative_distinguished_name : Tree ℕ → Bool
is_relative_distinguished_name = set_of_some is_attribute_type_and_value

-- Name ::= CHOICE { rdnSequence RDNSequence }
-- RDNSequence ::= SEQUENCE OF RelativeDistinguishedName
abbrev pub is_name : Tree ℕ → Bool
is_name = sequence_of is_relative_distinguished_name

-- Time ::= CHOICE {
--     utcTime      UTCTime,
--     generalTime  GeneralizedTime }
abbrev pub is_time : Tree ℕ → Bool
is_time b = is_leaf UTC_TIME b || is_leaf GENERALIZED_TIME b

-- Validity ::= SEQUENCE {
--     notBefore  Time,
--     notAfter   Time }
abbrev pub validity : Tree ℕ → Option Found
validity = sequence
    (field is_time
    (field is_time
    no_more))

abbrev pub is_validity : Tree ℕ → Bool
is_validity b = is_found (validity b)

-- Extension ::= SEQUENCE {
--     extnID     OBJECT IDENTIFIER,
--     critical   BOOLEAN DEFAULT FALSE,
--     extnValue  OCTET STRING }
abbrev pub extension : Tree ℕ → Option Found
extension = sequence
    (field (is_leaf OBJECT_IDENTIFIER)
    (optional (is_leaf BOOLEAN)
    (field (is_leaf OCTET_STRING)
    no_more)))

abbrev pub is_extension : Tree ℕ → Bool
is_extension b = is_found (extension b)

-- Extensions ::= SEQUENCE SIZE (1..MAX) OF Extension
abbrev pub is_extensions : Tree ℕ → Bool
is_extensions = sequence_of_some is_extension

-- TBSCertificate ::= SEQUENCE {
--     version               [0]  EXPLICIT Version DEFAULT v1,    -- INTEGER
--     serialNumber               CertificateSerialNumber,        -- INTEGER
--     signature                  AlgorithmIdentifier,
--     issuer                     Name,
--     validity                   Validity,
--     subject                    Name,
--     subjectPublicKeyInfo       SubjectPublicKeyInfo,
--     issuerUniqueID        [1]  IMPLICIT UniqueIdentifier OPTIONAL,    -- BIT STRING
--     subjectUniqueID       [2]  IMPLICIT UniqueIdentifier OPTIONAL,    -- BIT STRING
--     extensions            [3]  Extensions OPTIONAL }    -- in a module with EXPLICIT TAGS
abbrev pub tbs_certificate : Tree ℕ → Option Found
tbs_certificate = sequence
    (optional (tagged 0 (is_leaf INTEGER))
    (field (is_leaf INTEGER)
    (field is_algorithm_identifier
    (field is_name
    (field is_validity
    (field is_name
    (field is_subject_public_key_info
    (optional (is_bits 1)
    (optional (is_bits 2)
    (optional (tagged 3 is_extensions)
    no_more))))))))))

abbrev pub is_tbs_certificate : Tree ℕ → Bool
is_tbs_certificate b = is_found (tbs_certificate b)

-- Certificate ::= SEQUENCE {
--     tbsCertificate      TBSCertificate,
--     signatureAlgorithm  AlgorithmIdentifier,
--     signature           BIT STRING }
abbrev pub certificate : Tree ℕ → Option Found
certificate = sequence
    (field is_tbs_certificate
    (field is_algorithm_identifier
    (field (is_leaf BIT_STRING)
    no_more)))

-- of revokedCertificates in TBSCertList: SEQUENCE {
--     userCertificate     CertificateSerialNumber,    -- INTEGER
--     revocationDate      Time,
--     crlEntryExtensions  Extensions OPTIONAL }
abbrev pub revoked_certificate : Tree ℕ → Option Found
revoked_certificate = sequence
    (field (is_leaf INTEGER)
    (field is_time
    (optional is_extensions
    no_more)))

abbrev pub is_revoked_certificate : Tree ℕ → Bool
is_revoked_certificate b = is_found (revoked_certificate b)

-- TBSCertList ::= SEQUENCE {
--     version                   Version OPTIONAL,    -- INTEGER
--     signature                 AlgorithmIdentifier,
--     issuer                    Name,
--     thisUpdate                Time,
--     nextUpdate                Time OPTIONAL,
--     revokedCertificates       SEQUENCE OF SEQUENCE { .. } OPTIONAL,
--     crlExtensions        [0]  Extensions OPTIONAL }    -- in a module with EXPLICIT TAGS
abbrev pub tbs_cert_list : Tree ℕ → Option Found
tbs_cert_list = sequence
    (optional (is_leaf INTEGER)
    (field is_algorithm_identifier
    (field is_name
    (field is_time
    (optional is_time
    (optional (sequence_of is_revoked_certificate)
    (optional (tagged 0 is_extensions)
    no_more)))))))

abbrev pub is_tbs_cert_list : Tree ℕ → Bool
is_tbs_cert_list b = is_found (tbs_cert_list b)

-- CertificateList ::= SEQUENCE {
--     tbsCertList         TBSCertList,
--     signatureAlgorithm  AlgorithmIdentifier,
--     signature           BIT STRING }
abbrev pub certificate_list : Tree ℕ → Option Found
certificate_list = sequence
    (field is_tbs_cert_list
    (field is_algorithm_identifier
    (field (is_leaf BIT_STRING)
    no_more)))

-- Attribute ::= SEQUENCE {
--     type    OBJECT IDENTIFIER,
--     values  SET SIZE (1..MAX) OF ANY }    -- of the type that the identifier says
abbrev pub attribute : Tree ℕ → Option Found
attribute = sequence
    (field (is_leaf OBJECT_IDENTIFIER)
    (field (set_of_some is_any)
    no_more))

abbrev pub is_attribute : Tree ℕ → Bool
is_attribute b = is_found (attribute b)

-- Attributes ::= SET OF Attribute    -- in implicit tagging, in both modules that have it
abbrev pub tagged_attributes : (Tree ℕ → Trees ℕ) → ℕ → Tree ℕ → Bool
tagged_attributes held tag = tagged_set_of held tag is_attribute

-- CertificationRequestInfo ::= SEQUENCE {
--     version             INTEGER,
--     subject             Name,
--     subjectPKInfo       SubjectPublicKeyInfo,
--     attributes     [0]  Attributes }    -- in a module with IMPLICIT TAGS
abbrev pub certification_request_info : (Tree ℕ → Trees ℕ) → Tree ℕ → Option Found
certification_request_info held = sequence
    (field (is_leaf INTEGER)
    (field is_name
    (field is_subject_public_key_info
    (field (tagged_attributes held 0)
    no_more))))

abbrev pub is_certification_request_info : (Tree ℕ → Trees ℕ) → Tree ℕ → Bool
is_certification_request_info held b = is_found (certification_request_info held b)

-- CertificationRequest ::= SEQUENCE {
--     certificationRequestInfo  CertificationRequestInfo,
--     signatureAlgorithm        AlgorithmIdentifier,
--     signature                 BIT STRING }
abbrev pub certification_request : (Tree ℕ → Trees ℕ) → Tree ℕ → Option Found
certification_request held = sequence
    (field (is_certification_request_info held)
    (field is_algorithm_identifier
    (field (is_leaf BIT_STRING)
    no_more)))

-- OneAsymmetricKey ::= SEQUENCE {    -- without publicKey the PrivateKeyInfo of RFC 5208
--     version                   Version,    -- INTEGER
--     privateKeyAlgorithm       AlgorithmIdentifier,
--     privateKey                OCTET STRING,
--     attributes           [0]  Attributes OPTIONAL,
--     publicKey            [1]  BIT STRING OPTIONAL }    -- in a module with IMPLICIT TAGS
abbrev pub one_asymmetric_key : (Tree ℕ → Trees ℕ) → Tree ℕ → Option Found
one_asymmetric_key held = sequence
    (field (is_leaf INTEGER)
    (field is_algorithm_identifier
    (field (is_leaf OCTET_STRING)
    (optional (tagged_attributes held 0)
    (optional (is_bits 1)
    no_more)))))
